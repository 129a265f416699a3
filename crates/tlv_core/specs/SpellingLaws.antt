-- What a forest says of the bytes that spell it, object by object.
use Rattle.std.proofs.Common.{◌≡◌, ℕ, suc, ◌≤◌, List, [], ◌∷◌, ◌++◌, refl, sym, ap, arith, ◌∙◌, true, false}
use Rattle.std.proofs.lemmas.List.Elements.{All-tail}
use Rattle.tlv_core.specs.TagForm.{is_constructed}
use Rattle.tlv_core.specs.Spelling.{Forest, Empty, Primitive, Template, Begins, Spells, deepest}
use Rattle.tlv_core.specs.Place.{StartsWith}
use Rattle.tlv_core.specs.FirstFault.{IsAtObject}
use Rattle.tlv_core.specs.StartLaws.{starts_at_object, starts_agree}

pub begins_starts : (bytes t s v r : List ℕ) (level : ℕ) → Begins bytes [] t s v r level
    → StartsWith bytes t s v r
begins_starts bytes t s v r level h =
    record { spelled = h.spelled; is_tag = h.is_tag; is_size = h.is_size }

-- If the bytes start with 00, that 00 is the first byte of the padding.
zero_padding : (rest p t s v r : List ℕ) (level : ℕ) → Begins (0 ∷ rest) p t s v r level
    → (q : List ℕ) × (p ≡ 0 ∷ q) × Begins rest q t s v r level
zero_padding rest [] t s v r level b =
    absurd (starts_at_object (0 ∷ rest) t s v r (begins_starts (0 ∷ rest) t s v r level b) refl)
zero_padding rest (a ∷ q) t s v r level b =
    let first : a ≡ 0 = b.is_padding 0 0 (omega arith) in
    let e : 0 ∷ rest ≡ a ∷ (q ++ t ++ s ++ v ++ r) = b.spelled in
    let tail : rest ≡ q ++ t ++ s ++ v ++ r = cc in (
      q,
      ap (λ x. x ∷ q) first,
      record {
        spelled = tail;
        is_padding = All-tail (λ b. b ≡ 0) a q b.is_padding;
        is_tag = b.is_tag;
        is_size = b.is_size;
        in_depth = b.in_depth;
      },
    )

pub spells_less : (forest : Forest) (rest : List ℕ) (level : ℕ) → Spells forest (0 ∷ rest) level
    → Spells forest rest level
spells_less Empty rest level h = All-tail (λ b. b ≡ 0) 0 rest h
spells_less (Primitive tag value next) rest level (p, s, r, b, kind, more) =
    let (q, e, c) = zero_padding rest p tag s value r level b in (q, s, r, c, kind, more)
spells_less (Template tag children next) rest level (p, s, v, r, b, kind, inner, more) =
    let (q, e, c) = zero_padding rest p tag s v r level b in (q, s, v, r, c, kind, inner, more)

-- Bytes that start with an object have no padding in front.
no_padding : (bytes p t s v r : List ℕ) (level : ℕ) → IsAtObject bytes
    → Begins bytes p t s v r level → StartsWith bytes t s v r
no_padding bytes [] t s v r level h b = begins_starts bytes t s v r level b
no_padding [] (a ∷ q) t s v r level h b = absurd h
no_padding (c ∷ bytes) (a ∷ q) t s v r level h b =
    let first : a ≡ 0 = b.is_padding 0 0 (omega arith) in
    let e : c ∷ bytes ≡ a ∷ (q ++ t ++ s ++ v ++ r) = b.spelled in
    absurd (h cc)

-- The object at the front, and the forests that its value and the bytes after it spell.
pub record SpelledObject (bytes : List ℕ) (level : ℕ) : Type 0 where
  pub tag : List ℕ
  pub size : List ℕ
  pub value : List ℕ
  pub rest : List ℕ
  pub starts : StartsWith bytes tag size value rest
  pub in_depth : level ≤ deepest
  pub inside : is_constructed tag ≡ true → (forest : Forest) × Spells forest value (suc level)
  pub after : (forest : Forest) × Spells forest rest level

pub spelled_object : (forest : Forest) (bytes : List ℕ) (level : ℕ) → IsAtObject bytes
    → Spells forest bytes level → SpelledObject bytes level
spelled_object Empty [] level at h = absurd at
spelled_object Empty (a ∷ bytes) level at h = absurd (at (h 0 0 (omega arith)))
spelled_object (Primitive tag value next) bytes level at (p, s, r, b, kind, more) = record {
  tag = tag;
  size = s;
  value = value;
  rest = r;
  starts = no_padding bytes p tag s value r level at b;
  in_depth = b.in_depth;
  inside = λ is. absurd (let clash : true ≡ false = sym is ∙ kind in cc);
  after = (next, more);
}
spelled_object (Template tag children next) bytes level at (p, s, v, r, b, kind, inner, more) =
    record {
      tag = tag;
      size = s;
      value = v;
      rest = r;
      starts = no_padding bytes p tag s v r level at b;
      in_depth = b.in_depth;
      inside = λ is. (children, inner);
      after = (next, more);
    }

-- If the bytes spell a forest, so do the bytes after an object, and those in it.
pub after_is_spelled : (bytes t s v r : List ℕ) (level : ℕ) → StartsWith bytes t s v r
    → (forest : Forest) × Spells forest bytes level
    → (forest : Forest) × Spells forest r level
after_is_spelled bytes t s v r level h (forest, spells) =
    let o = spelled_object forest bytes level (starts_at_object bytes t s v r h) spells in
    let same = starts_agree bytes o.tag o.size o.value o.rest t s v r o.starts h in
    rw (← same.rest) o.after

pub inside_is_spelled : (bytes t s v r : List ℕ) (level : ℕ) → StartsWith bytes t s v r
    → is_constructed t ≡ true
    → (forest : Forest) × Spells forest bytes level → (forest : Forest)
    × Spells forest v (suc level)
inside_is_spelled bytes t s v r level h kind (forest, spells) =
    let o = spelled_object forest bytes level (starts_at_object bytes t s v r h) spells in
    let same = starts_agree bytes o.tag o.size o.value o.rest t s v r o.starts h in
    rw (← same.value) (o.inside (ap is_constructed same.tag ∙ kind))
