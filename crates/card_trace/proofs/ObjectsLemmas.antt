-- The lines of objects, written one object after another.
use Rattle.std.proofs.Common.{◌≡◌, ℕ, zero, suc, ◌+◌, List, ◌++◌, true, false, Some, None, refl, sym, ap, ◌∙◌, subst, add-one, append-nil, append_assoc}
use Rattle.std.specs.Prelude.{codes}
use Rattle.hex.specs.Hex.{encode_upper}
use Rattle.tlv_core.specs.TagForm.{is_constructed}
use Rattle.tlv_core.specs.Spelling.{Forest, Empty, Primitive, Template, Spells}
use Rattle.tlv_core.specs.Object.{Object, ObjectList, GivesNext}
use Rattle.card_trace.specs.LineText.{newline, value_text}
use Rattle.card_trace.specs.ForestText.{indent, lines_below}

-- two spaces more
pub indent-more : (n : ℕ) → indent (n + 1) ≡ indent n ++ codes "  "
indent-more n = ap indent (add-one n) ∙ moved n
  where
    moved : (k : ℕ) → codes "  " ++ indent k ≡ indent k ++ codes "  "
    moved zero = refl
    moved (suc k) = ap (λ x. codes "  " ++ x) (moved k)

-- For any rest of the list: the written text and the lines of that rest are what was there before
-- and the lines of the whole list.
pub record Printed (below : ℕ) (whole rest : ObjectList) (before text : List ℕ) : Type 0 where
  pub one_level : rest.level ≡ whole.level
  pub continues : (next : Forest) → Spells next rest.bytes rest.level
      → (all : Forest) × Spells all whole.bytes whole.level
      × (text ++ lines_below below next ≡ before ++ lines_below below all)

-- the written text, a line, and the rest
after_line : (text line rest : List ℕ) → (text ++ line) ++ rest ≡ text ++ (line ++ rest)
after_line text line rest = append_assoc text line rest

-- the line of a primitive
abbrev primitive_line : ℕ → Object → List ℕ
primitive_line below o = indent below ++ encode_upper o.tag ++ codes " " ++ value_text o.value
    ++ newline

-- the lines of a template
abbrev template_lines : ℕ → Object → Forest → List ℕ
template_lines below o children = indent below ++ encode_upper o.tag ++ newline
    ++ lines_below (suc below) children

pub printed_primitive : (below : ℕ) (whole now after : ObjectList) (o : Object)
    (before text new : List ℕ)
    → Printed below whole now before text → GivesNext now (Some o) after → is_constructed o.tag
    ≡ false
    → new ≡ ((((text ++ indent below) ++ encode_upper o.tag) ++ codes " ") ++ value_text o.value)
    ++ newline
    → Printed below whole after before new
printed_primitive below whole now after o before text new h ((padding, begins), same, level) kind
    new_is = record {
      one_level = level ∙ h.one_level;
      continues = λ next spells.
          let Spelled : ℕ → Type 0 = λ n. Spells next after.bytes n in
          let all = h.continues (Primitive o.tag o.value next)
          (padding, o.size, after.bytes, begins, kind, subst Spelled level spells) in
          let line : new ≡ text ++ primitive_line below o = new_is ∙ simp append_assoc refl in (
            all.0,
            all.1,
            ap (λ x. x ++ lines_below below next) line
                ∙ after_line text (primitive_line below o) (lines_below below next) ∙ all.2,
          );
    }

pub printed_template : (below : ℕ) (whole now after : ObjectList) (o : Object) (children : Forest)
    (before text new : List ℕ)
    → Printed below whole now before text → GivesNext now (Some o) after → is_constructed o.tag
    ≡ true
    → Spells children o.value (o.level + 1)
    → new ≡ (((text ++ indent below) ++ encode_upper o.tag) ++ newline)
    ++ lines_below (below + 1) children
    → Printed below whole after before new
printed_template below whole now after o children before text new h
    ((padding, begins), same, level) kind inner new_is = record {
      one_level = level ∙ h.one_level;
      continues = λ next spells.
          let Spelled : ℕ → Type 0 = λ n. Spells next after.bytes n in
          let Inner : ℕ → Type 0 = λ n. Spells children o.value n in
          let deeper : Spells children o.value (suc now.level) =
          subst Inner (add-one o.level ∙ ap suc same) inner in
          let all = h.continues (Template o.tag children next) (
            padding,
            o.size,
            o.value,
            after.bytes,
            begins,
            kind,
            deeper,
            subst Spelled level
                spells,
          ) in
          let line : new ≡ text ++ template_lines below o children =
          new_is ∙ ap (λ n. (((text ++ indent below) ++ encode_upper o.tag) ++ newline)
          ++ lines_below n children) (add-one below) ∙ simp append_assoc refl in (
            all.0,
            all.1,
            ap (λ x. x ++ lines_below below next) line
                ∙ after_line text (template_lines below o children) (lines_below below next)
                ∙ all.2,
          );
    }

-- the lines of all objects are written
pub printed_all : (below : ℕ) (whole now after : ObjectList) (before text : List ℕ)
    → Printed below whole now before text → GivesNext now None after
    → (forest : Forest) × Spells forest whole.bytes whole.level
    × (text ≡ before ++ lines_below below forest)
printed_all below whole now after before text h gives =
    let all = h.continues Empty gives.0 in (all.0, all.1, sym (append-nil text) ∙ all.2)

-- the written line of a primitive, and that of a template before its objects
pub line_pushed : (below : ℕ) (tag value text a b c d new tag_given value_given : List ℕ) → a ≡ text
    ++ indent below
    → b ≡ a ++ encode_upper tag_given → tag_given ≡ tag → c ≡ b ++ codes " " → d ≡ c
    ++ value_text value_given → value_given ≡ value → new ≡ d ++ newline
    → new ≡ ((((text ++ indent below) ++ encode_upper tag) ++ codes " ") ++ value_text value)
    ++ newline
line_pushed below tag value text a b c d new tag_given value_given a_is b_is tag_is c_is d_is
    value_is new_is =
    rw (new_is, d_is, c_is, b_is, a_is, tag_is, value_is) refl

pub lines_pushed : (below : ℕ) (tag text a b c new tag_given : List ℕ) (children : Forest) → a
    ≡ text ++ indent below
    → b ≡ a ++ encode_upper tag_given → tag_given ≡ tag → c ≡ b ++ newline → new ≡ c
    ++ lines_below (below + 1) children
    → new ≡ (((text ++ indent below) ++ encode_upper tag) ++ newline)
    ++ lines_below (below + 1) children
lines_pushed below tag text a b c new tag_given children a_is b_is tag_is c_is new_is =
    rw (new_is, c_is, b_is, a_is, tag_is) refl

-- what the list of an object's children spells, the object's value spells
pub children_spelled : (f : Forest) (list : ObjectList) (value : List ℕ) (level : ℕ) → list
    ≡ record { bytes = value; level = level } → Spells f list.bytes list.level
    → Spells f value level
children_spelled f list value level e h = let P : ObjectList → Type 0 =
    λ l. Spells f l.bytes l.level in subst P e h

-- two spaces more are written
pub two_more : (old text new : List ℕ) (n : ℕ) → text ≡ old ++ indent n → new ≡ text ++ codes "  "
    → new ≡ old ++ indent (n + 1)
two_more old text new n so_far more =
    more ∙ ap (λ x. x ++ codes "  ") so_far ∙ append_assoc old (indent n) (codes "  ")
    ∙ ap (λ x. old ++ x) (sym (indent-more n))
