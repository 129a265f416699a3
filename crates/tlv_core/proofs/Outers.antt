-- The ends that a reader stores, as the used cells of an array.
use Rattle.std.proofs.Common.{◌≡◌, ◌≢◌, ℕ, zero, suc, ◌+◌, ◌-◌, ◌<◌, ◌≤◌, List, [], ◌∷◌, length, get_or, refl, ap, arith, add-one, get_or-set_same, get_or-set_other}
use Rattle.std.proofs.Math.ListN.{set}
use Rattle.tlv_core.specs.FrontParts.{innermost_first}

pub count_is : (cells : List ℕ) (n : ℕ) → length (innermost_first cells n) ≡ n
count_is cells zero = refl
count_is cells (suc n) = ap suc (count_is cells n)

pub others_stay : (cells : List ℕ) (i e n : ℕ) → n ≤ i → innermost_first (set cells i e) n
    ≡ innermost_first cells n
others_stay cells i e zero h = refl
others_stay cells i e (suc n) h =
    let first = get_or-set_other cells i n e 0 (λ same. omega arith) in
    let rest = others_stay cells i e n (omega arith) in cc

pub one_more : (cells : List ℕ) (n e : ℕ) → n < length cells
    → innermost_first (set cells n e) (n + 1) ≡ e ∷ innermost_first cells n
one_more cells n e h =
    let first = get_or-set_same cells n e 0 h in
    let rest = others_stay cells n e n (omega arith) in
    rw add-one (cc)

pub last_left : (cells : List ℕ) (n : ℕ) → n ≢ 0 → innermost_first cells n ≡ get_or cells (n - 1) 0
    ∷ innermost_first cells (n - 1)
last_left cells zero h = absurd (h refl)
last_left cells (suc n) h =
    let e : suc n - 1 ≡ n = omega arith in rw e refl

pub none_left : (cells : List ℕ) (n : ℕ) → n ≡ 0 → innermost_first cells n ≡ []
none_left cells n e = rw e refl

-- the level after n open templates
pub depth_is : (cells : List ℕ) (level n : ℕ) → level + n ≡ level + length (innermost_first cells n)
depth_is cells level n = omega (arith, count_is cells n)
