-- A forest grows by each object that the iterator returns.
use Rattle.std.proofs.Common.{◌≡◌, ℕ, suc, ◌+◌, ◌<◌, ◌≤◌, List, length, true, false, Some, None, refl, ap, ◌∙◌, subst, add-one, arith}
use Rattle.tlv_core.specs.TagForm.{is_constructed}
use Rattle.tlv_core.specs.Spelling.{Forest, Empty, Primitive, Template, Begins, Spells, AreObjects, encoding, levels, longest, deepest}
use Rattle.tlv_core.specs.Items.{Item, PrimitiveItem, TemplateItem, with_first, with_last}
use Rattle.tlv_core.specs.Object.{Object, ObjectList, GivesNext}
use Rattle.tlv_core.proofs.OneForest.{one_object, no_object}
use Rattle.tlv_core.proofs.Shortest.{spelled_below}
use Rattle.tlv_core.proofs.Written.{shortest_encoding, levels_when_spelled}

-- the objects of two forests, one after another
abbrev pub joined : Forest → Forest → Forest
joined Empty next = next
joined (Primitive tag value rest) next = Primitive tag value (joined rest next)
joined (Template tag children rest) next = Template tag children (joined rest next)

joined-Empty : (f : Forest) → joined f Empty ≡ f
joined-Empty Empty = refl
joined-Empty (Primitive tag value rest) = ap (Primitive tag value) (joined-Empty rest)
joined-Empty (Template tag children rest) = ap (Template tag children) (joined-Empty rest)

joined-with_last : (f : Forest) (item : Item) (next : Forest) → joined (with_last f item) next
    ≡ joined f (with_first item next)
joined-with_last Empty (PrimitiveItem tag value) next = refl
joined-with_last Empty (TemplateItem tag children) next = refl
joined-with_last (Primitive tag value rest) item next =
    ap (Primitive tag value) (joined-with_last rest item next)
joined-with_last (Template tag children rest) item next =
    ap (Template tag children) (joined-with_last rest item next)

-- The objects so far, followed by those that the rest of a list spells, are what the whole list
-- spells.
pub record Grows (forest : Forest) (whole rest : ObjectList) : Type 0 where
  pub one_level : rest.level ≡ whole.level
  pub left : AreObjects rest.bytes rest.level
  pub spelled : (next : Forest) → Spells next rest.bytes rest.level
      → Spells (joined forest next) whole.bytes whole.level

-- the bytes after the first object of a list are a list of objects
after_object : (bytes p t s v r : List ℕ) (level : ℕ) (f : Forest) → Begins bytes p t s v r level
    → Spells f bytes level → AreObjects r level
after_object bytes p t s v r level Empty b h = absurd (no_object bytes p t s v r level h b)
after_object bytes p t s v r level (Primitive tag value rest) b
    (q, size, more, begins, kind, others) =
    let same = one_object bytes q tag size value more p t s v r level begins b in
    let P : List ℕ → Type 0 = λ x. Spells rest x level in (rest, subst P same.2 others)
after_object bytes p t s v r level (Template tag children rest) b
    (q, size, value, more, begins, kind, inner, others) =
    let same = one_object bytes q tag size value more p t s v r level begins b in
    let P : List ℕ → Type 0 = λ x. Spells rest x level in (rest, subst P same.2 others)

-- one more object
grows : (f : Forest) (whole before after : ObjectList) (o : Object) (item : Item)
    → Grows f whole before → GivesNext before (Some o) after
    → ((next : Forest) → Spells next after.bytes before.level
    → Spells (with_first item next) before.bytes before.level)
    → Grows (with_last f item) whole after
grows f whole before after o item h ((padding, begins), same, level) put = record {
  one_level = level ∙ h.one_level;
  left = rw level (after_object before.bytes padding o.tag o.size o.value after.bytes before.level
      h.left.0 begins h.left.1);
  spelled = λ next spells. rw joined-with_last
      (h.spelled (with_first item next) (put next (rw level at spells)));
}

pub grows_primitive : (f : Forest) (whole before after : ObjectList) (o : Object)
    → Grows f whole before → GivesNext before (Some o) after
    → is_constructed o.tag ≡ false → Grows (with_last f (PrimitiveItem o.tag o.value)) whole after
grows_primitive f whole before after o h gives kind =
    grows f whole before after o (PrimitiveItem o.tag o.value) h gives
    (λ next spells. (gives.0.0, o.size, after.bytes, gives.0.1, kind, spells))

pub grows_template : (f : Forest) (whole before after : ObjectList) (o : Object) (children : Forest)
    → Grows f whole before
    → GivesNext before (Some o) after → is_constructed o.tag ≡ true
    → Spells children o.value (o.level + 1)
    → Grows (with_last f (TemplateItem o.tag children)) whole after
grows_template f whole before after o children h gives kind inner =
    let deeper : Spells children o.value (suc before.level) = rw (← add-one, ← gives.1) inner in
    grows f whole before after o (TemplateItem o.tag children) h gives
    (λ next spells. (gives.0.0, o.size, o.value, after.bytes, gives.0.1, kind, deeper, spells))

pub grown : (f : Forest) (whole before after : ObjectList) → Grows f whole before
    → GivesNext before None after → Spells f whole.bytes whole.level
grown f whole before after h gives = let P : Forest → Type 0 =
    λ g. Spells g whole.bytes whole.level in subst P (joined-Empty f) (h.spelled Empty gives.0)

-- the value of an object spells what the list of its children spells
pub children_spelled : (f : Forest) (list : ObjectList) (value : List ℕ) (level : ℕ) → list
    ≡ record { bytes = value; level = level } → Spells f list.bytes list.level
    → Spells f value level
children_spelled f list value level e h = let P : ObjectList → Type 0 =
    λ l. Spells f l.bytes l.level in subst P e h

-- the value of an object that the iterator returned can be written
pub given_fits : (before after : ObjectList) (o : Object) → GivesNext before (Some o) after
    → length o.value ≤ longest
given_fits before after o gives = spelled_below o.size (length o.value) gives.0.1.is_size

pub children_fit : (before after : ObjectList) (o : Object) (children : Forest)
    → GivesNext before (Some o) after
    → Spells children o.value (o.level + 1) → length (encoding children) ≤ longest
children_fit before after o children gives inner =
    omega (
      arith,
      given_fits before after o gives,
      shortest_encoding children o.value
          (o.level + 1) inner,
    )

pub children_in_depth : (o : Object) (children : Forest) → 0 < o.level
    → Spells children o.value (o.level + 1) → levels children < deepest
children_in_depth o children low inner =
    omega (arith, levels_when_spelled children o.value (o.level + 1) inner)
