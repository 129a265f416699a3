-- Facts about the places of objects.
use Rattle.std.proofs.Common.{◌≡◌, ℕ, suc, ◌+◌, ◌<◌, ◌≤◌, List, [], ◌∷◌, ◌++◌, length, ap, arith, length-append, ◌∙◌, ◌⊎◌, inl, inr, true}
use Rattle.tlv_core.specs.TagForm.{is_constructed}
use Rattle.tlv_core.specs.Place.{StartsWith, Reached, at_front, past_padding, past_object, into_template}
use Rattle.tlv_core.specs.FirstFault.{IsAtObject, IsFault}
use Rattle.tlv_core.specs.declared.fault.Reason.{Reason}
use Rattle.tlv_core.specs.StartLaws.{starts_agree}
use Rattle.tlv_core.proofs.StartFacts.{zero_starts_none, tag_is_some}

pub starts_length : (bytes t s v r : List ℕ) → StartsWith bytes t s v r
    → length bytes ≡ length (t ++ s) + length v + length r
starts_length bytes t s v r h = ap length h.spelled ∙ length-append (t ++ s ++ v) r
    ∙ ap (λ n. n + length r) (length-append (t ++ s) v)

pub object_is_some : (bytes t s v r : List ℕ) → StartsWith bytes t s v r → 0 < length (t ++ s)
object_is_some bytes t s v r h = omega (arith, length-append t s, tag_is_some t h.is_tag)

-- Bytes at an object do not start with padding.
pub zero_not_object : (bytes rest : List ℕ) → bytes ≡ 0 ∷ rest → IsAtObject bytes → ⊥
zero_not_object [] rest e h = h
zero_not_object (a ∷ bytes) rest e h = h cc

pub object_is_long : (left : List ℕ) → IsAtObject left → 0 < length left
object_is_long [] h = absurd h
object_is_long (a ∷ left) h = omega arith

-- The rest of a list at a place fits inside the bytes.
pub reached_inside : (bytes : List ℕ) (level place : ℕ) (left : List ℕ) (depth : ℕ)
    (path : List (List ℕ))
    → Reached bytes level place left depth path → place + length left ≤ length bytes
reached_inside bytes level place left depth path (at_front p l d t) = omega (arith, ap length l)
reached_inside bytes level place left depth path (past_padding rest next b p r) =
    omega (arith, ap length b, reached_inside rest level next left depth path r)
reached_inside bytes level place left depth path (past_object t s v rest next h p r) =
    omega (
      arith,
      starts_length bytes t s v rest h,
      length-append (t ++ s) v,
      reached_inside rest level next left depth path r,
    )
reached_inside bytes level place left depth path
    (into_template t s v rest inner below h kind p q r) =
    omega (
      arith,
      starts_length bytes t s v rest h,
      reached_inside v (suc level) inner left depth below r,
    )

-- A fault is before the end.
pub fault_inside : (bytes : List ℕ) (level place : ℕ) (reason : Reason)
    → IsFault bytes level place reason → place < length bytes
fault_inside bytes level place reason f =
    omega (
      arith,
      reached_inside bytes level place f.left f.depth f.path f.reached,
      object_is_long f.left f.at_object,
    )

-- A place at an object, reached in padded bytes, is reached in what follows the padding.
pub padded_place : (bytes : List ℕ) (level place : ℕ) (left : List ℕ) (depth : ℕ)
    (path : List (List ℕ))
    → Reached bytes level place left depth path → (rest : List ℕ) → bytes ≡ 0 ∷ rest
    → IsAtObject left
    → (next : ℕ) × (place ≡ 1 + next) × Reached rest level next left depth path
padded_place bytes level place left depth path (at_front p l d t) rest e object =
    absurd (zero_not_object left rest (l ∙ e) object)
padded_place bytes level place left depth path (past_padding more next b p r) rest e object =
    let same : more ≡ rest = cc in (next, p, rw (← same) r)
padded_place bytes level place left depth path (past_object t s v more next o p r) rest e object =
    let h : StartsWith (0 ∷ rest) t s v more = rw (← e) o in
    absurd (zero_starts_none rest t s v more h)
padded_place bytes level place left depth path (into_template t s v more inner below o kind p q r)
    rest e object =
    let h : StartsWith (0 ∷ rest) t s v more = rw (← e) o in
    absurd (zero_starts_none rest t s v more h)

-- A place in bytes that start with an object is the front, or after the object, or in it.
pub record IsFront (bytes : List ℕ) (level place : ℕ) (left : List ℕ) (depth : ℕ)
    (path : List (List ℕ)) : Type 0 where
  pub at : place ≡ 0
  pub whole : left ≡ bytes
  pub same : depth ≡ level
  pub outside : path ≡ []

pub record IsPast (head value rest : List ℕ) (level place : ℕ) (left : List ℕ) (depth : ℕ)
    (path : List (List ℕ)) : Type 0 where
  pub next : ℕ
  pub at : place ≡ length (head ++ value) + next
  pub reached : Reached rest level next left depth path

pub record IsWithin (tag head value : List ℕ) (level place : ℕ) (left : List ℕ) (depth : ℕ)
    (path : List (List ℕ)) : Type 0 where
  pub inner : ℕ
  pub below : List (List ℕ)
  pub kind : is_constructed tag ≡ true
  pub at : place ≡ length head + inner
  pub through : path ≡ tag ∷ below
  pub reached : Reached value (suc level) inner left depth below

pub object_place : (bytes : List ℕ) (level place : ℕ) (left : List ℕ) (depth : ℕ)
    (path : List (List ℕ))
    → Reached bytes level place left depth path → (t s v r : List ℕ) → StartsWith bytes t s v r
    → IsFront bytes level place left depth path
    ⊎ (IsPast (t ++ s) v r level place left depth path
    ⊎ IsWithin t (t ++ s) v level place left depth path)
object_place bytes level place left depth path (at_front p l d e) t s v r h =
    inl (record { at = p; whole = l; same = d; outside = e })
object_place bytes level place left depth path (past_padding more next b p q) t s v r h =
    let k : StartsWith (0 ∷ more) t s v r = rw (← b) h in absurd (zero_starts_none more t s v r k)
object_place bytes level place left depth path (past_object t' s' v' r' next o p q) t s v r h =
    let same = starts_agree bytes t' s' v' r' t s v r o h in
    inr (inl (record {
      next = next;
      at = rw (← same.tag, ← same.size, ← same.value) p;
      reached = rw (← same.rest) q;
    }))
object_place bytes level place left depth path (into_template t' s' v' r' inner below o kind p e q)
    t s v r h =
    let same = starts_agree bytes t' s' v' r' t s v r o h in
    inr (inr (record {
      inner = inner;
      below = below;
      kind = rw (← same.tag) kind;
      at = rw (← same.tag, ← same.size) p;
      through = rw (← same.tag) e;
      reached = rw (← same.value) q;
    }))
