-- Bit 5 of a byte.
use Rattle.std.specs.Prelude.{IsTrue}
use Rattle.std.proofs.Common.{◌≡◌, ◌≢◌, ℕ, zero, suc, ◌-◌, ◌<◌, Bool, true, false, ◌&&◌, ◌||◌, ◌==◌, not, bit_and, bit_or, refl, arith, subst, eq-zero-or-pos, inl, inr}
use Rattle.std.proofs.lemmas.Bool.Decides.{nat_tests}
use Rattle.std.proofs.lemmas.Nat.{and_or_self, and_or_apart}

abbrev all_below : (ℕ → Bool) → ℕ → Bool
all_below p zero = true
all_below p (suc n) = p n && all_below p n

both : (a b : Bool) → IsTrue (a && b) → IsTrue a × IsTrue b
both true b h = (refl, h)
both false b h = cc

-- a test that computes to true for each number below n is true of each of them
every_below : (p : ℕ → Bool) (n : ℕ) → IsTrue (all_below p n) → (i : ℕ) → i < n → IsTrue (p i)
every_below p zero h i l = absurd (omega arith)
every_below p (suc n) h i l =
    let parts = both (p n) (all_below p n) h in
    elim (eq-zero-or-pos (n - i)) [
      | inl none ↦
          let here : n ≡ i = omega arith in
          let P : ℕ → Type 0 = λ x. IsTrue (p x) in
          subst P here parts.0
      | inr some ↦ every_below p n parts.1 i (omega arith)
    ]

-- clearing bit 5 of a byte changes nothing if it is clear already
abbrev stays : ℕ → Bool
stays b = not (bit_and b 0x10 == 0) || (bit_and b 0xEF == b)

every_byte_stays : IsTrue (all_below stays 256)
every_byte_stays = refl

pub cleared : (b : ℕ) → b < 256 → bit_and b 0x10 ≡ 0 → bit_and b 0xEF ≡ b
cleared b h clear = let at = every_below stays 256 every_byte_stays b h in grind (arith, nat_tests)

pub set_and_cleared : (b : ℕ) → b < 256 → bit_and b 0x10 ≡ 0 → bit_and (bit_or b 0x10) 0xEF ≡ b
set_and_cleared b h clear =
    let apart = and_or_apart 0xEF b 0x10 refl in
    let same = cleared b h clear in
    cc

pub is_set : (b : ℕ) → bit_and (bit_or b 0x10) 0x10 ≢ 0
is_set b none = let m = and_or_self 0x10 b in omega arith
