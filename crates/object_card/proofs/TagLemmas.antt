-- The tag that the function finds in P1-P2 is named by them.
use Rattle.std.proofs.Common.{◌≡◌, ℕ, ◌%◌, List, [], ◌∷◌, Some, None, Bool, true, false, refl, sym, subst, inl, inr, eqb, ltb, leb, not, ◌&&◌}
use Rattle.std.specs.Prelude.{Option, IsSome, IfSome, ◌↔◌, if◌then◌else◌}
use Rattle.std.proofs.lemmas.Bool.{and_parts, leb-true, ltb-true, eqb-true, eqb-false, not-true}
use Rattle.std.proofs.lemmas.Bool.Decides.{eqb_tells}
use Rattle.tlv_core.specs.Address.{NamesTag}
use Rattle.object_card.specs.Refusals.{named_tag}
use Rattle.object_card.specs.TagLaws.{named}

abbrev short_test : ℕ → Bool
short_test p2 = leb 0x40 p2 && leb p2 0xFE && not (eqb (p2 % 32) 31)

abbrev long_test : ℕ → ℕ → Bool
long_test p1 p2 = leb 0x5F p1 && ltb p1 256 && eqb (p1 % 32) 31 && ltb 0 p2 && ltb p2 0x80

from_test : (test : Bool) (bytes tag : List ℕ) → (if test then Some bytes else None) ≡ Some tag
    → (test ≡ true) × (bytes ≡ tag)
from_test true bytes tag e = (refl, cc)
from_test false bytes tag e = absurd (cc)

pub names : (tag : List ℕ) (p1 p2 : ℕ) → named_tag p1 p2 ≡ Some tag → NamesTag tag p1 p2
names tag p1 p2 h =
    let Given : Bool → Type 0 = λ test.
    (if test then (if short_test p2 then Some (p2 ∷ []) else None)
    else (if long_test p1 p2 then Some (p1 ∷ p2 ∷ []) else None)) ≡ Some tag in
    elim (eqb_tells p1 0) [
      | inl zero_first ↦
          let (test, e) = from_test (short_test p2) (p2 ∷ []) tag (subst Given zero_first.0 h) in
          let (both, last) = and_parts (leb 0x40 p2 && leb p2 0xFE) (not (eqb (p2 % 32) 31)) test in
          let (low, high) = and_parts (leb 0x40 p2) (leb p2 0xFE) both in
          subst (λ t. NamesTag t p1 p2) e (
            leb-true 0x40 p2 low,
            leb-true p2 0xFE high,
            eqb-false (p2 % 32) 31 (not-true _ last),
            zero_first.1,
            refl,
          )
      | inr some_first ↦
          let (test, e) = from_test (long_test p1 p2) (p1 ∷ p2 ∷ []) tag
          (subst Given some_first.0 h) in
          let (four, few) = and_parts (leb 0x5F p1 && ltb p1 256 && eqb (p1 % 32) 31 && ltb 0 p2)
          (ltb p2 0x80) test in
          let (three, some) = and_parts (leb 0x5F p1 && ltb p1 256 && eqb (p1 % 32) 31) (ltb 0 p2)
          four in
          let (two, all) = and_parts (leb 0x5F p1 && ltb p1 256) (eqb (p1 % 32) 31) three in
          let (low, high) = and_parts (leb 0x5F p1) (ltb p1 256) two in
          subst (λ t. NamesTag t p1 p2) e (
            leb-true 0x5F p1 low,
            ltb-true p1 256 high,
            eqb-true (p1 % 32) 31 all,
            ltb-true 0 p2 some,
            ltb-true p2 0x80 few,
            refl,
            refl,
          )
    ]

-- the tag found, by a search that finds exactly the named tags
pub found_is_named : (r : Option (List ℕ)) (p1 p2 : ℕ)
    → (IsSome r ↔ ((tag : List ℕ) × NamesTag tag p1 p2))
    → IfSome r (λ tag. NamesTag tag p1 p2) → r ≡ named_tag p1 p2
found_is_named (Some tag) p1 p2 some is = sym (named tag p1 p2 is)
found_is_named None p1 p2 some is = split (named_tag p1 p2) refl
  where
    split : (v : Option (List ℕ)) → named_tag p1 p2 ≡ v → None ≡ v
    split None e = refl
    split (Some tag) e = let no : false ≡ true = some.1 (tag, names tag p1 p2 e) in absurd (cc)
