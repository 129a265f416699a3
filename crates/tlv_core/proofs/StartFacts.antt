-- Facts about the front of bytes.
use Rattle.std.proofs.Common.{◌≡◌, ℕ, ◌-◌, ◌<◌, ◌≤◌, List, [], ◌∷◌, ◌++◌, length, take, drop, refl, sym, ap, arith, append_assoc, length-append, ◌∙◌, ◌⊎◌, inl, inr, Ok}
use Rattle.std.proofs.lemmas.List.{take_at, drop_at, take-append-drop, length-take-le}
use Rattle.std.proofs.lemmas.Bool.{cases_lt}
use Rattle.tlv_core.specs.TagForm.{IsTag}
use Rattle.tlv_core.specs.Length.{SpellsLength}
use Rattle.tlv_core.specs.Spelling.{deepest}
use Rattle.tlv_core.specs.Place.{StartsWith}
use Rattle.tlv_core.specs.FirstFault.{FailsFor}
use Rattle.tlv_core.specs.FrontParts.{IsFrontTagSize, IsSpelledFrom, HasNoFrontLength, HasParts}
use Rattle.tlv_core.specs.declared.fault.Reason.{Reason}
use Rattle.tlv_core.specs.declared.fault.Reason.TheVariants.{TagCut, TagForm, LengthCut, LengthForm, ValueCut, TooDeep}
use Rattle.tlv_core.proofs.TagFacts.{tag_cases}
use Rattle.tlv_core.proofs.LengthFacts.{length_cases}
use Rattle.tlv_core.specs.StartLaws.{starts_at_object}

-- A tag has at least one byte, and does not start with 00.
pub tag_is_some : (t : List ℕ) → IsTag t → 0 < length t
tag_is_some [] h = absurd h
tag_is_some (a ∷ t) h = omega arith

pub zero_starts_none : (rest t s v r : List ℕ) → StartsWith (0 ∷ rest) t s v r → ⊥
zero_starts_none rest t s v r h = starts_at_object (0 ∷ rest) t s v r h refl

-- Bytes that are neither empty nor padded in front start with an object, or have a fault there.
pub record IsWhole (bytes : List ℕ) (level : ℕ) : Type 0 where
  pub tag : List ℕ
  pub size : List ℕ
  pub value : List ℕ
  pub rest : List ℕ
  pub starts : StartsWith bytes tag size value rest
  pub in_depth : level ≤ deepest

Answer : List ℕ → ℕ → Type 0
Answer bytes level = IsWhole bytes level ⊎ ((reason : Reason) × FailsFor bytes level reason)

whole : (bytes tag size rest : List ℕ) (n : ℕ) → IsTag tag → SpellsLength size n
    → bytes ≡ tag ++ size ++ rest → n ≤ length rest
    → StartsWith bytes tag size (take n rest) (drop n rest)
whole bytes tag size rest n is_tag is_size e enough = record {
  spelled = e ∙ ap (λ x. tag ++ size ++ x) (sym (take-append-drop n rest))
      ∙ sym (append_assoc (tag ++ size) (take n rest) (drop n rest));
  is_tag = is_tag;
  is_size = rw (length-take-le n rest enough) is_size;
}

value_cases : (bytes tag size rest : List ℕ) (n level : ℕ) → level ≤ deepest → IsTag tag
    → SpellsLength size n
    → bytes ≡ tag ++ size ++ rest → Answer bytes level
unfolding Answer
value_cases bytes tag size rest n level low is_tag is_size e = elim (cases_lt (length rest) n) [
  | inl short ↦ inr (ValueCut, (low, (tag, size, rest, n, is_tag, is_size, e, short)))
  | inr enough ↦ inl (record {
    tag = tag;
    size = size;
    value = take n rest;
    rest = drop n rest;
    starts = whole bytes tag size rest n is_tag is_size e enough;
    in_depth = low;
  })
]

length_answer : (bytes tag rest : List ℕ) (level : ℕ) → level ≤ deepest → IsTag tag
    → bytes ≡ tag ++ rest → Answer bytes level
unfolding Answer
length_answer bytes tag rest level low is_tag e = elim (length_cases rest) [
  | inl (size, more, n, is_size, f) ↦ value_cases bytes tag size more n level low is_tag is_size
      (e ∙ ap (λ x. tag ++ x) f ∙ sym (append_assoc tag size more))
  | inr (inl inside) ↦ inr (LengthCut, (low, (tag, rest, is_tag, e, inside)))
  | inr (inr form) ↦ inr (LengthForm, (low, (tag, rest, is_tag, e, form.0, form.1)))
]

pub front_answer : (bytes : List ℕ) (level : ℕ) → IsWhole bytes level
    ⊎ ((reason : Reason) × FailsFor bytes level reason)
unfolding Answer
front_answer bytes level = elim (cases_lt deepest level) [
  | inl deep ↦ inr (TooDeep, deep)
  | inr low ↦ elim (tag_cases bytes) [
    | inl (tag, rest, is_tag, e) ↦ length_answer bytes tag rest level low is_tag e
    | inr (inl inside) ↦ inr (TagCut, (low, inside))
    | inr (inr form) ↦ inr (TagForm, (low, form.0, form.1))
  ]
]

-- The tag at the front, as `tag_size` returns it, and the rest.
after_tag : (bytes : List ℕ) (n : ℕ) → IsFrontTagSize bytes (Ok n)
    → (tag : List ℕ) × IsTag tag × (length tag ≡ n) × (bytes ≡ tag ++ drop n bytes)
after_tag bytes n (tag, (is_tag, (rest, e)), same) =
    let cut : drop n bytes ≡ rest = ap (drop n) e ∙ drop_at tag rest n same in
    (tag, is_tag, same, e ∙ ap (λ x. tag ++ x) (sym cut))

pub tag_fits : (bytes : List ℕ) (n : ℕ) → IsFrontTagSize bytes (Ok n) → n ≤ length bytes
tag_fits bytes n (tag, (is_tag, (rest, e)), same) =
    omega (arith, ap length e, length-append tag rest)

fails_for : (bytes tag rest : List ℕ) (level : ℕ) (reason : Reason) → level ≤ deepest → IsTag tag
    → bytes ≡ tag ++ rest
    → HasNoFrontLength rest reason → FailsFor bytes level reason
fails_for bytes tag rest level LengthCut low is_tag e h = (low, (tag, rest, is_tag, e, h))
fails_for bytes tag rest level LengthForm low is_tag e h = (low, (tag, rest, is_tag, e, h.0, h.1))
fails_for bytes tag rest level TagCut low is_tag e h = absurd h
fails_for bytes tag rest level TagForm low is_tag e h = absurd h
fails_for bytes tag rest level ValueCut low is_tag e h = absurd h
fails_for bytes tag rest level TooDeep low is_tag e h = absurd h

pub fails_for_length : (bytes : List ℕ) (n level : ℕ) (reason : Reason) → level ≤ deepest
    → IsFrontTagSize bytes (Ok n)
    → HasNoFrontLength (drop n bytes) reason → FailsFor bytes level reason
fails_for_length bytes n level reason low front h =
    let (tag, is_tag, same, e) = after_tag bytes n front in
    fails_for bytes tag (drop n bytes) level reason low is_tag e h

-- The tag and the length at the front, and what follows them.
heads : (bytes : List ℕ) (n end value : ℕ) → IsFrontTagSize bytes (Ok n)
    → IsSpelledFrom bytes n end value
    → (tag size rest : List ℕ) × IsTag tag × SpellsLength size value × (bytes ≡ tag ++ size ++ rest)
    × (length tag ≡ n) × (length (tag ++ size) ≡ end)
heads bytes n end value front (spelled, ends, (size, rest, f, same_size, is_size)) =
    let (tag, is_tag, same, e) = after_tag bytes n front in (
      tag,
      size,
      rest,
      is_tag,
      is_size,
      e ∙ ap (λ x. tag ++ x) f ∙ sym (append_assoc tag size rest),
      same,
      omega (arith, length-append tag size),
    )

pub cut_for_value : (bytes : List ℕ) (n end value level : ℕ) → level ≤ deepest
    → IsFrontTagSize bytes (Ok n) → IsSpelledFrom bytes n end value
    → length bytes - end < value → FailsFor bytes level ValueCut
cut_for_value bytes n end value level low front spelling short =
    let (tag, size, rest, is_tag, is_size, e, a, b) = heads bytes n end value front spelling in (
      low,
      (
        tag,
        size,
        rest,
        value,
        is_tag,
        is_size,
        e,
        omega (arith, ap length e, length-append (tag ++ size) rest),
      ),
    )

pub has_parts : (bytes : List ℕ) (n end value level : ℕ) → level ≤ deepest
    → IsFrontTagSize bytes (Ok n) → IsSpelledFrom bytes n end value
    → value ≤ length bytes - end → HasParts bytes level n end value
has_parts bytes n end value level low front spelling enough =
    let (tag, size, rest, is_tag, is_size, e, a, b) = heads bytes n end value front spelling in
    let fits : value ≤ length rest = omega (arith, ap length e, length-append (tag ++ size) rest) in
    record {
      in_depth = low;
      tag = tag;
      size = size;
      value = take value rest;
      rest = drop value rest;
      starts = whole bytes tag size rest value is_tag is_size e fits;
      tag_is = a;
      head_is = b;
      value_is = length-take-le value rest fits;
    }

-- The parts of an object, cut by their sizes.
pub parts_cut : (bytes head after_head tag size value rest : List ℕ) (level n end m : ℕ)
    → HasParts bytes level n end m
    → head ≡ take end bytes → after_head ≡ drop end bytes → tag ≡ take n head → size ≡ drop n head
    → value ≡ take m after_head → rest ≡ drop m after_head → StartsWith bytes tag size value rest
parts_cut bytes head after_head tag size value rest level n end m h e1 e2 e3 e4 e5 e6 =
    let split : bytes ≡ (h.tag ++ h.size) ++ (h.value ++ h.rest) =
    h.starts.spelled ∙ append_assoc (h.tag ++ h.size) h.value h.rest in
    let front : head ≡ h.tag ++ h.size = e1 ∙ ap (take end) split
    ∙ take_at (h.tag ++ h.size) (h.value ++ h.rest) end h.head_is in
    let after : after_head ≡ h.value ++ h.rest = e2 ∙ ap (drop end) split
    ∙ drop_at (h.tag ++ h.size) (h.value ++ h.rest) end h.head_is in
    let tag_is : tag ≡ h.tag = e3 ∙ ap (take n) front ∙ take_at h.tag h.size n h.tag_is in
    let size_is : size ≡ h.size = e4 ∙ ap (drop n) front ∙ drop_at h.tag h.size n h.tag_is in
    let value_is : value ≡ h.value = e5 ∙ ap (take m) after ∙ take_at h.value h.rest m h.value_is in
    let rest_is : rest ≡ h.rest = e6 ∙ ap (drop m) after ∙ drop_at h.value h.rest m h.value_is in
    rw (tag_is, size_is, value_is, rest_is) h.starts
