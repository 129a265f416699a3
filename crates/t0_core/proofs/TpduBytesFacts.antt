-- The bytes of a whole TPDU, written by a terminal's end and read by a card's end.
use Rattle.std.proofs.Common.{◌≡◌, ℕ, zero, suc, ◌<◌, ◌≤◌, List, [], ◌∷◌, length, Some, refl, ap, subst, arith, true, false, Bool, ◌==◌, ◌++◌, if◌then◌else◌}
use Rattle.std.proofs.lemmas.Bool.{eq-eqb, eqb-false}
use Rattle.apdu_core.specs.declared.header.Header.{Header}
use Rattle.apdu_core.specs.HeaderBytes.{header_bytes}
use Rattle.apdu_core.specs.StatusWord.{count}
use Rattle.t0_core.specs.declared.direction.Direction.{Direction}
use Rattle.t0_core.specs.declared.direction.Direction.TheVariants.{ToCard, FromCard}
use Rattle.t0_core.specs.HostSide.{AreForeseen}
use Rattle.t0_core.specs.HostAnswer.{may_come}
use Rattle.t0_core.specs.TpduBytes.{asked_for, asked_with, asked_in, tpdu_bytes, p3_field}

so_many : (header : Header) (b : ℕ) (bs : List ℕ)
    → asked_with header (length (b ∷ bs) ∷ b ∷ bs)
    ≡ Some (asked_for header (length (b ∷ bs)) (b ∷ bs) 0)
so_many header b bs = rw (eq-eqb (length (b ∷ bs)) (length (b ∷ bs)) refl) refl

-- if data are asked for, P3 is written
counted : (p3 : ℕ) (v : Bool) → (p3 == 0) ≡ v → p3_field p3 [] (if v then 256 else p3) ≡ p3 ∷ []
counted p3 true is = refl
counted zero false is = absurd (eqb-false 0 0 is refl)
counted (suc n) false is = refl

counts : (p3 : ℕ) → p3_field p3 [] (count p3) ≡ p3 ∷ []
counts p3 = counted p3 (p3 == 0) refl

pub written_read : (header : Header) (d : Direction) (p3 : ℕ) (content : List ℕ)
    → AreForeseen d content p3
    → asked_in (tpdu_bytes (asked_for header p3 content (may_come d p3)))
    ≡ Some (asked_for header p3 content (may_come d p3))
written_read header ToCard p3 [] len =
    let P : ℕ → Type 0 = λ n. asked_in (tpdu_bytes (asked_for header n [] 0))
    ≡ Some (asked_for header n [] 0) in
    subst P len refl
written_read header ToCard p3 (b ∷ bs) len =
    let P : ℕ → Type 0 = λ n. asked_in (tpdu_bytes (asked_for header n (b ∷ bs) 0))
    ≡ Some (asked_for header n (b ∷ bs) 0) in
    subst P len (so_many header b bs)
written_read header FromCard p3 [] none =
    ap (λ bytes. asked_in (header_bytes header ++ bytes)) (counts p3)
written_read header FromCard p3 (b ∷ bs) none = absurd (cc)

pub written_few : (header : Header) (d : Direction) (p3 : ℕ) (content : List ℕ)
    → AreForeseen d content p3 → p3 < 256
    → (4 ≤ length (tpdu_bytes (asked_for header p3 content (may_come d p3))))
    × (length (tpdu_bytes (asked_for header p3 content (may_come d p3))) ≤ 260)
written_few header ToCard p3 [] len small = (omega arith, omega arith)
written_few header ToCard p3 (b ∷ bs) len small = (omega arith, omega (arith, len, small))
written_few header FromCard p3 [] none small =
    let len : length (tpdu_bytes (asked_for header p3 [] (may_come FromCard p3))) ≡ 5 =
    ap (λ bytes. length (header_bytes header ++ bytes)) (counts p3) in
    (omega (arith, len), omega (arith, len))
written_few header FromCard p3 (b ∷ bs) none small = absurd (cc)
