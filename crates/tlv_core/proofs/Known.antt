-- The object at the front of bytes, by the bytes that the reader looks at.
use Rattle.std.proofs.Common.{◌≡◌, ℕ, ◌≤◌, List, ◌++◌, length, drop, sym, ap, arith, append_assoc, length-append, ◌∙◌, Ok}
use Rattle.std.proofs.lemmas.List.{drop_at}
use Rattle.tlv_core.specs.TagForm.{StartsWithTag}
use Rattle.tlv_core.specs.Length.{StartsWithLength}
use Rattle.tlv_core.specs.FrontParts.{IsFrontTagSize, IsSpelledFrom, HasParts}
use Rattle.tlv_core.specs.Place.{StartsWith, StartsWithObject}
use Rattle.tlv_core.specs.StartLaws.{after_tags_agree}
use Rattle.tlv_core.specs.LengthLaws.{sizes_agree}

-- An object.
pub known_starts_tag : (bytes : List ℕ) → StartsWithObject bytes → StartsWithTag bytes
known_starts_tag bytes (t, s, v, r, h) = (t, s ++ (v ++ r), h.is_tag, h.spelled ∙ simp append_assoc)

after_known_tag : (bytes t s v r : List ℕ) (n : ℕ) → StartsWith bytes t s v r
    → IsFrontTagSize bytes (Ok n) → (length t ≡ n) × (drop n bytes ≡ s ++ (v ++ r))
after_known_tag bytes t s v r n h (tag, (is_tag, (rest, e)), same) =
    let split : bytes ≡ t ++ (s ++ (v ++ r)) = h.spelled ∙ simp append_assoc in
    let tags = after_tags_agree t tag (s ++ (v ++ r)) rest h.is_tag is_tag (sym split ∙ e) in
    let long : length t ≡ n = ap length tags.0 ∙ same in
    (long, ap (drop n) split ∙ drop_at t (s ++ (v ++ r)) n long)

pub known_inside : (bytes : List ℕ) (n : ℕ) → StartsWithObject bytes → IsFrontTagSize bytes (Ok n)
    → n ≤ length bytes
known_inside bytes n h (tag, (is_tag, (rest, e)), same) =
    omega (arith, ap length e, length-append tag rest)

pub known_starts_length : (bytes : List ℕ) (n : ℕ) → StartsWithObject bytes
    → IsFrontTagSize bytes (Ok n) → StartsWithLength (drop n bytes)
known_starts_length bytes n (t, s, v, r, h) front =
    let a = after_known_tag bytes t s v r n h front in (s, v ++ r, length v, h.is_size, a.1)

pub known_parts : (bytes : List ℕ) (n end m : ℕ) → StartsWithObject bytes
    → IsFrontTagSize bytes (Ok n) → IsSpelledFrom bytes n end m → HasParts bytes 1 n end m
known_parts bytes n end m (t, s, v, r, h) front (spelled, ends, (size, rest, f, same, is_size)) =
    let a = after_known_tag bytes t s v r n h front in
    let z = sizes_agree s size (v ++ r) rest (length v) m h.is_size is_size (sym a.1 ∙ f) in
    record {
      in_depth = omega arith;
      tag = t;
      size = s;
      value = v;
      rest = r;
      starts = h;
      tag_is = a.0;
      head_is = omega (arith, length-append t s, a.0, ap length z.0);
      value_is = z.1;
    }
