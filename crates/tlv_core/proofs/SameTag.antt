-- When two tags are equal.
use Rattle.std.proofs.Common.{◌≡◌, ◌≢◌, ℕ, ◌-◌, List, length, replicate, refl, sym, Bool, true, false, not, ◌&&◌, nat_eq, eq-eqb, inl, inr}
use Rattle.std.specs.Cmp.Lexicographic.{pointwise, same_text, other_text}
use Rattle.std.proofs.lemmas.Bool.{cases_Bool, eqb-true}
use Rattle.tlv_core.specs.PaddedCells.{padded}
use Rattle.tlv_core.specs.StartLaws.{fronts_agree}

both_true : (a b : Bool) → false ≡ not (a && b) → (a ≡ true) × (b ≡ true)
both_true true true e = (refl, refl)
both_true true false e = absurd cc
both_true false b e = absurd cc

one_false : (a b : Bool) → true ≡ not (a && b) → a ≡ true → b ≡ true → ⊥
one_false true true e p q = cc
one_false true false e p q = cc
one_false false b e p q = cc

same_to_itself : (xs : List ℕ) → pointwise nat_eq xs xs ≡ true
same_to_itself xs = elim (cases_Bool (pointwise nat_eq xs xs))
    [ inl e ↦ e | inr e ↦ absurd (other_text xs xs (sym e) refl) ]

pub tags_same : (s t : List ℕ) → false
    ≡ not (pointwise nat_eq (padded 3 s) (padded 3 t) && nat_eq (length s) (length t)) → s ≡ t
tags_same s t e =
    let b = both_true (pointwise nat_eq (padded 3 s) (padded 3 t))
    (nat_eq (length s) (length t)) e in
    (fronts_agree s t (replicate (3 - length s) 0) (replicate (3 - length t) 0)
    (eqb-true (length s) (length t) b.1) (same_text (padded 3 s) (padded 3 t) (sym b.0))).0

pub tags_differ : (s t : List ℕ) → true ≡ not
    (pointwise nat_eq (padded 3 s) (padded 3 t) && nat_eq (length s) (length t)) → s ≢ t
tags_differ s t e same =
    one_false (pointwise nat_eq (padded 3 s) (padded 3 t)) (nat_eq (length s) (length t)) e
    (rw same (same_to_itself (padded 3 t))) (rw same (eq-eqb (length t) (length t) refl))
