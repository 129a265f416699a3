-- The object at the front of bytes.
use Rattle.std.proofs.Common.{◌≡◌, ℕ, ◌≤◌, List, [], ◌∷◌, ◌++◌, length, take, drop, refl, sym, ap, arith, append_assoc, length-append, ◌∙◌}
use Rattle.std.proofs.lemmas.List.{take_at, drop_at}
use Rattle.tlv_core.specs.TagForm.{IsTag}
use Rattle.tlv_core.specs.Spelling.{deepest}
use Rattle.tlv_core.specs.Place.{StartsWith}
use Rattle.tlv_core.specs.FirstFault.{FailsFor, IsAtObject}
use Rattle.tlv_core.specs.declared.fault.Reason.{Reason}
use Rattle.tlv_core.specs.declared.fault.Reason.TheVariants.{TagCut, TagForm, LengthCut, LengthForm, ValueCut, TooDeep}
use Rattle.tlv_core.specs.TagLaws.{tags_agree, start_is_not_inside}
use Rattle.tlv_core.specs.LengthLaws.{sizes_agree, length_start_is_not_inside}

-- Two lists of equal length at the front of one list are equal, and so is what follows them.
pub fronts_agree : (s t x y : List ℕ) → length s ≡ length t → s ++ x ≡ t ++ y → (s ≡ t) × (x ≡ y)
fronts_agree s t x y same e = (
  sym (take_at s x (length s) refl) ∙ ap (take (length s)) e ∙ take_at t y (length s) (sym same),
  sym (drop_at s x (length s) refl) ∙ ap (drop (length s)) e ∙ drop_at t y (length s) (sym same),
)

-- The tag at the front of bytes determines what follows it.
pub after_tags_agree : (s t x y : List ℕ) → IsTag s → IsTag t → s ++ x ≡ t ++ y → (s ≡ t) × (x ≡ y)
after_tags_agree s t x y hs ht e = fronts_agree s t x y (ap length (tags_agree s t x y hs ht e)) e

regroup : (t s v r : List ℕ) → t ++ s ++ v ++ r ≡ t ++ (s ++ (v ++ r))
regroup t s v r = simp append_assoc

-- Bytes start with at most one object.
pub record SameObject (t s v r t' s' v' r' : List ℕ) : Type 0 where
  pub tag : t ≡ t'
  pub size : s ≡ s'
  pub value : v ≡ v'
  pub rest : r ≡ r'

pub starts_agree : (bytes t s v r t' s' v' r' : List ℕ) → StartsWith bytes t s v r
    → StartsWith bytes t' s' v' r' → SameObject t s v r t' s' v' r'
starts_agree bytes t s v r t' s' v' r' h k =
    let e = after_tags_agree t t' (s ++ (v ++ r)) (s' ++ (v' ++ r')) h.is_tag k.is_tag
    (sym (regroup t s v r) ∙ sym h.spelled ∙ k.spelled ∙ regroup t' s' v' r') in
    let z = sizes_agree s s' (v ++ r) (v' ++ r') (length v) (length v') h.is_size k.is_size e.1 in
    let w = fronts_agree s s' (v ++ r) (v' ++ r') (ap length z.0) e.1 in
    let u = fronts_agree v v' r r' z.1 w.1 in
    record { tag = e.0; size = z.0; value = u.0; rest = u.1 }

pub tag_at_object : (t x : List ℕ) → IsTag t → IsAtObject (t ++ x)
tag_at_object [] x h = absurd h
tag_at_object (a ∷ []) x h = λ e. omega arith
tag_at_object (a ∷ b ∷ []) x h = λ e. omega arith
tag_at_object (a ∷ b ∷ c ∷ []) x h = λ e. omega arith
tag_at_object (a ∷ b ∷ c ∷ d ∷ t) x h = absurd h

pub starts_at_object : (bytes t s v r : List ℕ) → StartsWith bytes t s v r → IsAtObject bytes
starts_at_object bytes t s v r h =
    rw (h.spelled, regroup t s v r) (tag_at_object t (s ++ (v ++ r)) h.is_tag)

-- Bytes that start with an object of this level have no fault at their front.
pub starts_fails_not : (bytes t s v r : List ℕ) (level : ℕ) (reason : Reason)
    → StartsWith bytes t s v r → level ≤ deepest
    → FailsFor bytes level reason → ⊥
starts_fails_not bytes t s v r level TooDeep h low f = omega arith
starts_fails_not bytes t s v r level TagCut h low f =
    start_is_not_inside bytes (t, s ++ (v ++ r), h.is_tag, h.spelled ∙ regroup t s v r) f.1
starts_fails_not bytes t s v r level TagForm h low f =
    f.2 (t, s ++ (v ++ r), h.is_tag, h.spelled ∙ regroup t s v r)
starts_fails_not bytes t s v r level LengthCut h low (level_ok, (tag, rest, is_tag, e, inside)) =
    let same = after_tags_agree t tag (s ++ (v ++ r)) rest h.is_tag is_tag
    (sym (regroup t s v r) ∙ sym h.spelled ∙ e) in
    length_start_is_not_inside rest (s, v ++ r, length v, h.is_size, sym same.1) inside
starts_fails_not bytes t s v r level LengthForm h low
    (level_ok, (tag, rest, is_tag, e, inside, starts)) =
    let same = after_tags_agree t tag (s ++ (v ++ r)) rest h.is_tag is_tag
    (sym (regroup t s v r) ∙ sym h.spelled ∙ e) in
    starts (s, v ++ r, length v, h.is_size, sym same.1)
starts_fails_not bytes t s v r level ValueCut h low
    (level_ok, (tag, size, rest, n, is_tag, is_size, e, short)) =
    let same = after_tags_agree t tag (s ++ (v ++ r)) (size ++ rest) h.is_tag is_tag
    (sym (regroup t s v r) ∙ sym h.spelled ∙ e ∙ append_assoc tag size rest) in
    let z = sizes_agree s size (v ++ r) rest (length v) n h.is_size is_size same.1 in
    let w = fronts_agree s size (v ++ r) rest (ap length z.0) same.1 in
    omega (arith, length-append v r, ap length w.1, z.1)
