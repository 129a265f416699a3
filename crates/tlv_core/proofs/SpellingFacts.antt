-- Facts about what bytes spell.
use Rattle.std.proofs.Common.{◌≡◌, ℕ, suc, ◌≤◌, List, [], ◌∷◌, ◌++◌, refl, ap, arith, add-one, ◌∙◌, true, false, All, ◌≢◌, length, ◌==◌}
use Rattle.std.proofs.lemmas.List.Elements.{All-cons, All-tail}
use Rattle.tlv_core.specs.TagForm.{is_constructed}
use Rattle.tlv_core.specs.Spelling.{Forest, Empty, Primitive, Template, Begins, Spells, AreObjects, deepest}
use Rattle.tlv_core.specs.Place.{StartsWith, StartsWithObject}
use Rattle.tlv_core.specs.FirstFault.{IsAtObject}
use Rattle.tlv_core.specs.Object.{IsObject}
use Rattle.tlv_core.specs.SpellingLaws.{spells_less, spelled_object, inside_is_spelled}

pub All_nil : All (λ (b : ℕ). b ≡ 0) []
All_nil k d low = absurd (omega arith)

pub starts_begins : (bytes t s v r : List ℕ) (level : ℕ) → StartsWith bytes t s v r
    → level ≤ deepest → Begins bytes [] t s v r level
starts_begins bytes t s v r level h low =
    record {
      spelled = h.spelled;
      is_padding = All_nil;
      is_tag = h.is_tag;
      is_size = h.is_size;
      in_depth = low;
    }

-- One 00 more in front changes no forest.
pub begins_more : (rest p t s v r : List ℕ) (level : ℕ) → Begins rest p t s v r level
    → Begins (0 ∷ rest) (0 ∷ p) t s v r level
begins_more rest p t s v r level h =
    record {
      spelled = ap (λ x. 0 ∷ x) h.spelled;
      is_padding = All-cons (λ b. b ≡ 0) 0 p refl h.is_padding;
      is_tag = h.is_tag;
      is_size = h.is_size;
      in_depth = h.in_depth;
    }

pub spells_more : (forest : Forest) (rest : List ℕ) (level : ℕ) → Spells forest rest level
    → Spells forest (0 ∷ rest) level
spells_more Empty rest level h = All-cons (λ b. b ≡ 0) 0 rest refl h
spells_more (Primitive tag value next) rest level (p, s, r, b, kind, more) =
    (0 ∷ p, s, r, begins_more rest p tag s value r level b, kind, more)
spells_more (Template tag children next) rest level (p, s, v, r, b, kind, inner, more) =
    (0 ∷ p, s, v, r, begins_more rest p tag s v r level b, kind, inner, more)

-- An object in front of bytes that spell a forest.
pub spells_primitive : (bytes t s v r : List ℕ) (level : ℕ) (next : Forest)
    → StartsWith bytes t s v r → level ≤ deepest
    → is_constructed t ≡ false → Spells next r level → Spells (Primitive t v next) bytes level
spells_primitive bytes t s v r level next h low kind more =
    ([], s, r, starts_begins bytes t s v r level h low, kind, more)

pub spells_template : (bytes t s v r : List ℕ) (level : ℕ) (children next : Forest)
    → StartsWith bytes t s v r → level ≤ deepest
    → is_constructed t ≡ true → Spells children v (suc level) → Spells next r level
    → Spells (Template t children next) bytes level
spells_template bytes t s v r level children next h low kind inner more =
    ([], s, v, r, starts_begins bytes t s v r level h low, kind, inner, more)

-- Bytes without their padding in front spell the same forest.
pub objects_past_padding : (bytes rest : List ℕ) (level : ℕ) (padding : List ℕ)
    → All (λ b. b ≡ 0) padding → bytes ≡ padding ++ rest
    → AreObjects bytes level → AreObjects rest level
objects_past_padding bytes rest level [] zeros e (forest, h) = (forest, rw (← e) h)
objects_past_padding bytes rest level (a ∷ padding) zeros e (forest, h) =
    let first : a ≡ 0 = zeros 0 0 (omega arith) in
    let f : bytes ≡ 0 ∷ (padding ++ rest) = e ∙ ap (λ x. x ∷ (padding ++ rest)) first in
    let k : Spells forest (0 ∷ (padding ++ rest)) level = rw (← f) h in
    objects_past_padding (padding ++ rest) rest level padding
    (All-tail (λ b. b ≡ 0) a padding zeros) refl
    (forest, spells_less forest (padding ++ rest) level k)

pub objects_past_zero : (bytes rest : List ℕ) (level : ℕ) → bytes ≡ 0 ∷ rest
    → AreObjects bytes level → AreObjects rest level
objects_past_zero bytes rest level e (forest, h) =
    let k : Spells forest (0 ∷ rest) level = rw (← e) h in (forest, spells_less forest rest level k)

-- If the bytes spell objects and do not start with padding, an object is in front.
pub spelled_starts : (bytes : List ℕ) (level : ℕ) → AreObjects bytes level → IsAtObject bytes
    → StartsWithObject bytes × (level ≤ deepest)
spelled_starts bytes level (forest, spells) at =
    let o = spelled_object forest bytes level at spells in
    ((o.tag, o.size, o.value, o.rest, o.starts), o.in_depth)

pub spelled_is_object : (bytes t s v r : List ℕ) (level : ℕ) → AreObjects bytes level
    → level ≤ deepest → StartsWith bytes t s v r
    → IsObject (record { tag = t; size = s; value = v; level = level })
spelled_is_object bytes t s v r level objects low h = record {
  is_tag = h.is_tag;
  is_size = h.is_size;
  in_depth = low;
  inside = λ kind. rw add-one (inside_is_spelled bytes t s v r level h kind objects);
}

-- What follows the padding starts with an object, unless it is empty.
pub object_left : (rest : List ℕ) → false ≡ (length rest == 0) → (rest ≢ [] → IsAtObject rest)
    → IsAtObject rest
object_left rest e h = h (λ nil. let clash : false ≡ true = e ∙ ap (λ x. length x == 0) nil in cc)
