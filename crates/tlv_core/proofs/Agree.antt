-- There is one first fault: a place is reached in one way, and bytes fail for one reason.
use Rattle.std.proofs.Common.{◌≡◌, ℕ, suc, List, ◌∷◌, ◌++◌, refl, sym, ap, arith, append_assoc, length-append, ◌∙◌, inl, inr}
use Rattle.tlv_core.specs.TagForm.{IsTag, StartsWithTag}
use Rattle.tlv_core.specs.Length.{StartsWithLength, EndsInsideLength}
use Rattle.tlv_core.specs.Place.{Reached, at_front, past_padding, past_object, into_template}
use Rattle.tlv_core.specs.FirstFault.{FailsFor, IsAtObject, IsFirstFault}
use Rattle.tlv_core.specs.declared.fault.Reason.{Reason}
use Rattle.tlv_core.specs.declared.fault.Reason.TheVariants.{TagCut, TagForm, LengthCut, LengthForm, ValueCut, TooDeep}
use Rattle.tlv_core.specs.TagLaws.{start_is_not_inside}
use Rattle.tlv_core.specs.LengthLaws.{length_start_is_not_inside}
use Rattle.tlv_core.specs.StartLaws.{after_tags_agree}
use Rattle.tlv_core.proofs.PlaceFacts.{padded_place, object_place, reached_inside, object_is_long, object_is_some}

-- What follows the tag, for the three reasons that depend on it.
TagThen : List ℕ → (List ℕ → Type 0) → Type 0
TagThen bytes P = (tag rest : List ℕ) × IsTag tag × (bytes ≡ tag ++ rest) × P rest

tag_then_tag : (bytes : List ℕ) (P : List ℕ → Type 0) → TagThen bytes P → StartsWithTag bytes
unfolding TagThen
tag_then_tag bytes P (tag, rest, is_tag, e, p) = (tag, rest, is_tag, e)

tag_then_clash : (bytes : List ℕ) (P Q : List ℕ → Type 0) → ((rest : List ℕ) → P rest → Q rest → ⊥)
    → TagThen bytes P → TagThen bytes Q → ⊥
unfolding TagThen
tag_then_clash bytes P Q clash (tag, rest, is_tag, e, p) (other, more, is_other, f, q) =
    let same = after_tags_agree tag other rest more is_tag is_other (sym e ∙ f) in
    clash rest p (rw same.1 q)

cut_then : (bytes : List ℕ) (level : ℕ) → FailsFor bytes level LengthCut
    → TagThen bytes EndsInsideLength
unfolding TagThen
cut_then bytes level (low, h) = h

form_then : (bytes : List ℕ) (level : ℕ) → FailsFor bytes level LengthForm
    → TagThen bytes (λ rest. (EndsInsideLength rest → ⊥) × (StartsWithLength rest → ⊥))
unfolding TagThen
form_then bytes level (low, (tag, rest, is_tag, e, inside, starts)) =
    (tag, rest, is_tag, e, (inside, starts))

value_then : (bytes : List ℕ) (level : ℕ) → FailsFor bytes level ValueCut
    → TagThen bytes StartsWithLength
unfolding TagThen
value_then bytes level (low, (tag, size, rest, n, is_tag, is_size, e, short)) =
    (tag, size ++ rest, is_tag, e ∙ append_assoc tag size rest, (size, rest, n, is_size, refl))

-- Bytes fail for at most one reason.
pub fails_agree : (bytes : List ℕ) (level : ℕ) (r q : Reason) → FailsFor bytes level r
    → FailsFor bytes level q → r ≡ q
fails_agree bytes level TooDeep TooDeep x y = refl
fails_agree bytes level TooDeep TagCut x y = absurd (omega arith)
fails_agree bytes level TooDeep TagForm x y = absurd (omega arith)
fails_agree bytes level TooDeep LengthCut x y = absurd (omega arith)
fails_agree bytes level TooDeep LengthForm x y = absurd (omega arith)
fails_agree bytes level TooDeep ValueCut x y = absurd (omega arith)
fails_agree bytes level TagCut TooDeep x y = absurd (omega arith)
fails_agree bytes level TagCut TagCut x y = refl
fails_agree bytes level TagCut TagForm x y = absurd (y.1 x.1)
fails_agree bytes level TagCut LengthCut x y =
    absurd (start_is_not_inside bytes (tag_then_tag bytes EndsInsideLength (cut_then bytes level y))
    x.1)
fails_agree bytes level TagCut LengthForm x y =
    absurd (start_is_not_inside bytes
    (tag_then_tag bytes (λ rest. (EndsInsideLength rest → ⊥) × (StartsWithLength rest → ⊥))
    (form_then bytes level y)) x.1)
fails_agree bytes level TagCut ValueCut x y =
    absurd (start_is_not_inside bytes
    (tag_then_tag bytes StartsWithLength (value_then bytes level y)) x.1)
fails_agree bytes level TagForm TooDeep x y = absurd (omega arith)
fails_agree bytes level TagForm TagCut x y = absurd (x.1 y.1)
fails_agree bytes level TagForm TagForm x y = refl
fails_agree bytes level TagForm LengthCut x y =
    absurd (x.2 (tag_then_tag bytes EndsInsideLength (cut_then bytes level y)))
fails_agree bytes level TagForm LengthForm x y =
    absurd (x.2
    (tag_then_tag bytes (λ rest. (EndsInsideLength rest → ⊥) × (StartsWithLength rest → ⊥))
    (form_then bytes level y)))
fails_agree bytes level TagForm ValueCut x y =
    absurd (x.2 (tag_then_tag bytes StartsWithLength (value_then bytes level y)))
fails_agree bytes level LengthCut TooDeep x y = absurd (omega arith)
fails_agree bytes level LengthCut TagCut x y =
    absurd (start_is_not_inside bytes (tag_then_tag bytes EndsInsideLength (cut_then bytes level x))
    y.1)
fails_agree bytes level LengthCut TagForm x y =
    absurd (y.2 (tag_then_tag bytes EndsInsideLength (cut_then bytes level x)))
fails_agree bytes level LengthCut LengthCut x y = refl
fails_agree bytes level LengthCut LengthForm x y =
    absurd (tag_then_clash bytes EndsInsideLength
    (λ rest. (EndsInsideLength rest → ⊥) × (StartsWithLength rest → ⊥)) (λ rest p q. q.0 p)
    (cut_then bytes level x) (form_then bytes level y))
fails_agree bytes level LengthCut ValueCut x y =
    absurd (tag_then_clash bytes EndsInsideLength StartsWithLength
    (λ rest p q. length_start_is_not_inside rest q p) (cut_then bytes level x)
    (value_then bytes level y))
fails_agree bytes level LengthForm TooDeep x y = absurd (omega arith)
fails_agree bytes level LengthForm TagCut x y =
    absurd (start_is_not_inside bytes
    (tag_then_tag bytes (λ rest. (EndsInsideLength rest → ⊥) × (StartsWithLength rest → ⊥))
    (form_then bytes level x)) y.1)
fails_agree bytes level LengthForm TagForm x y =
    absurd (y.2
    (tag_then_tag bytes (λ rest. (EndsInsideLength rest → ⊥) × (StartsWithLength rest → ⊥))
    (form_then bytes level x)))
fails_agree bytes level LengthForm LengthCut x y =
    absurd (tag_then_clash bytes EndsInsideLength
    (λ rest. (EndsInsideLength rest → ⊥) × (StartsWithLength rest → ⊥)) (λ rest p q. q.0 p)
    (cut_then bytes level y) (form_then bytes level x))
fails_agree bytes level LengthForm LengthForm x y = refl
fails_agree bytes level LengthForm ValueCut x y =
    absurd (tag_then_clash bytes (λ rest. (EndsInsideLength rest → ⊥) × (StartsWithLength rest → ⊥))
    StartsWithLength (λ rest p q. p.1 q) (form_then bytes level x) (value_then bytes level y))
fails_agree bytes level ValueCut TooDeep x y = absurd (omega arith)
fails_agree bytes level ValueCut TagCut x y =
    absurd (start_is_not_inside bytes
    (tag_then_tag bytes StartsWithLength (value_then bytes level x)) y.1)
fails_agree bytes level ValueCut TagForm x y =
    absurd (y.2 (tag_then_tag bytes StartsWithLength (value_then bytes level x)))
fails_agree bytes level ValueCut LengthCut x y =
    absurd (tag_then_clash bytes EndsInsideLength StartsWithLength
    (λ rest p q. length_start_is_not_inside rest q p) (cut_then bytes level y)
    (value_then bytes level x))
fails_agree bytes level ValueCut LengthForm x y =
    absurd (tag_then_clash bytes (λ rest. (EndsInsideLength rest → ⊥) × (StartsWithLength rest → ⊥))
    StartsWithLength (λ rest p q. p.1 q) (form_then bytes level y) (value_then bytes level x))
fails_agree bytes level ValueCut ValueCut x y = refl

-- Each place is reached in one way.
pub record SamePlace (left : List ℕ) (depth : ℕ) (path : List (List ℕ)) (left' : List ℕ)
    (depth' : ℕ) (path' : List (List ℕ)) : Type 0 where
  pub same_left : left ≡ left'
  pub same_depth : depth ≡ depth'
  pub same_path : path ≡ path'

pub reached_agree : (bytes : List ℕ) (level place : ℕ) (left : List ℕ) (depth : ℕ)
    (path : List (List ℕ))
    → Reached bytes level place left depth path → (place' : ℕ) (left' : List ℕ) (depth' : ℕ)
    (path' : List (List ℕ))
    → Reached bytes level place' left' depth' path' → place ≡ place' → IsAtObject left
    → IsAtObject left'
    → SamePlace left depth path left' depth' path'
reached_agree bytes level place left depth path (at_front p l d e) place' left' depth' path'
    (at_front p' l' d' e') same a a' =
    record { same_left = l ∙ sym l'; same_depth = d ∙ sym d'; same_path = e ∙ sym e' }
reached_agree bytes level place left depth path (at_front p l d e) place' left' depth' path'
    (past_padding rest next b q r) same a a' =
    absurd (omega arith)
reached_agree bytes level place left depth path (at_front p l d e) place' left' depth' path'
    (past_object t s v rest next h q r) same a a' =
    absurd (omega (arith, object_is_some bytes t s v rest h, length-append (t ++ s) v))
reached_agree bytes level place left depth path (at_front p l d e) place' left' depth' path'
    (into_template t s v rest inner below h kind q z r) same a a' =
    absurd (omega (arith, object_is_some bytes t s v rest h))
reached_agree bytes level place left depth path (past_padding rest next b q r) place' left' depth'
    path' other same a a' =
    let (next', at, reached) = padded_place bytes level place' left' depth' path' other rest b a' in
    reached_agree rest level next left depth path r next' left' depth' path' reached
    (omega arith) a a'
reached_agree bytes level place left depth path (past_object t s v rest next h q r) place' left'
    depth' path' other same a a' =
    elim (object_place bytes level place' left' depth' path' other t s v rest h) [
      | inl front ↦
          absurd (omega (
            arith,
            front.at,
            object_is_some bytes t s v rest h,
            length-append
                (t ++ s) v,
          ))
      | inr (inl past) ↦ reached_agree rest level next left depth path r past.next left' depth'
          path' past.reached (omega (arith, past.at)) a a'
      | inr (inr within) ↦ absurd (omega (
        arith,
        within.at,
        length-append (t ++ s) v,
        object_is_long left' a',
        reached_inside v (suc level) within.inner left' depth' within.below within.reached,
      ))
    ]
reached_agree bytes level place left depth path (into_template t s v rest inner below h kind q z r)
    place' left' depth' path' other same a a' =
    elim (object_place bytes level place' left' depth' path' other t s v rest h) [
      | inl front ↦ absurd (omega (arith, front.at, object_is_some bytes t s v rest h))
      | inr (inl past) ↦ absurd (omega (
        arith,
        past.at,
        length-append (t ++ s) v,
        object_is_long left a,
        reached_inside v (suc level) inner left depth below r,
      ))
      | inr (inr within) ↦
          let g = reached_agree v (suc level) inner left depth below r within.inner left' depth'
          within.below within.reached (omega (arith, within.at)) a a' in
          record {
            same_left = g.same_left;
            same_depth = g.same_depth;
            same_path = z
                ∙ ap (λ x. t ∷ x) g.same_path ∙ sym within.through;
          }
    ]

-- There is at most one first fault.
pub first_faults_agree : (bytes : List ℕ) (level p q : ℕ) (r s : Reason)
    → IsFirstFault bytes level p r → IsFirstFault bytes level q s
    → (p ≡ q) × (r ≡ s)
first_faults_agree bytes level p q r s f g =
    let place : p ≡ q = omega (arith, f.none_before q s g.here, g.none_before p r f.here) in
    let same = reached_agree bytes level p f.here.left f.here.depth f.here.path f.here.reached
    q g.here.left g.here.depth g.here.path g.here.reached place f.here.at_object g.here.at_object in
    let fails : FailsFor f.here.left f.here.depth s =
    rw (same.same_left, same.same_depth) g.here.fails in
    (place, fails_agree f.here.left f.here.depth r s f.here.fails fails)
