-- The code finds two tags equal exactly if they have the same bytes.
use Rattle.std.proofs.Common.{◌≡◌, ◌≢◌, ℕ, ◌-◌, List, [], ◌∷◌, ◌++◌, length, Bool, true, false, ◌&&◌, refl, sym, ap, subst, ◌∙◌, replicate, eqb, inl, inr}
use Rattle.std.proofs.lemmas.Bool.Decides.{eqb_tells}
use Rattle.std.specs.Cmp.Lexicographic.{pointwise, as_long}
use Rattle.tlv_core.specs.contracts.object_tag.ObjectTagPartialEq.TheImpl.{eq-value}
use Rattle.object_card.specs.Tables.{same_bytes}

pub same_as_itself : (n : ℕ) → eqb n n ≡ true
same_as_itself n = elim (eqb_tells n n) [
  | inl yes_it_is ↦ yes_it_is.0
  | inr other
      ↦ absurd (other.1 refl)
]

pub itself : (p : List ℕ) → pointwise eqb p p ≡ true
itself [] = refl
itself (x ∷ p) = rw (same_as_itself x, itself p) refl

-- equal bytes after lists of equal length do not matter
same_end : (a b p : List ℕ) → length a ≡ length b → pointwise eqb (a ++ p) (b ++ p)
    ≡ pointwise eqb a b
same_end [] [] p e = itself p
same_end [] (y ∷ b) p e = absurd (cc)
same_end (x ∷ a) [] p e = absurd (cc)
same_end (x ∷ a) (y ∷ b) p e = let f : length a ≡ length b = cc in
    ap (λ t. eqb x y && t) (same_end a b p f)

no_more : (t : Bool) → (t && false) ≡ false
no_more true = refl
no_more false = refl

otherwise : (a b : List ℕ) → length a ≢ length b → pointwise eqb a b ≡ false
otherwise a b other = split (pointwise eqb a b) refl
  where
    split : (v : Bool) → pointwise eqb a b ≡ v → v ≡ false
    split true e = absurd (other (as_long eqb a b e))
    split false e = refl

pub same_tag : (a b : List ℕ) → eq-value.it a b ≡ same_bytes a b
same_tag a b = elim (eqb_tells (length a) (length b)) [
  | inl equal ↦
      let ends : pointwise eqb (a ++ replicate (3 - length a) 0) (b ++ replicate (3 - length b) 0)
      ≡ pointwise eqb a b =
      subst (λ n. pointwise eqb (a ++ replicate (3 - length a) 0) (b ++ replicate (3 - n) 0)
      ≡ pointwise eqb a b) equal.1 (same_end a b (replicate (3 - length a) 0) equal.1) in
      rw (equal.0, ends) (all (pointwise eqb a b))
  | inr other ↦ rw other.0 (no_more _ ∙ sym (otherwise a b other.1))
]
  where
    all : (t : Bool) → (t && true) ≡ t
    all true = refl
    all false = refl
