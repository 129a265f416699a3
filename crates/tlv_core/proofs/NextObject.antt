-- The next object of a list is the first object of the forest that the list spells.
use Rattle.std.proofs.Common.{◌≡◌, ℕ, suc, List, Some, None, refl, sym, subst, add-one}
use Rattle.tlv_core.specs.Spelling.{Forest, Empty, Primitive, Template, Spells}
use Rattle.tlv_core.specs.Items.{Item, PrimitiveItem, TemplateItem, with_first}
use Rattle.tlv_core.specs.Object.{Object, ObjectList, GivesNext, IsItemOf}
use Rattle.tlv_core.proofs.OneForest.{one_object, no_object}

pub next_is_first : (list left : ObjectList) (object : Object) (forest : Forest)
    → Spells forest list.bytes list.level
    → GivesNext list (Some object) left
    → ((item : Item) × (others : Forest) × (forest ≡ with_first item others) × IsItemOf item object
    × Spells others left.bytes left.level)
next_is_first list left o Empty spells ((padding, b), same, kept) =
    absurd (no_object list.bytes padding o.tag o.size o.value left.bytes list.level spells b)
next_is_first list left o (Primitive tag value rest) (q, size, more, begins, kind, others)
    ((padding, b), same, kept) =
    let one = one_object list.bytes q tag size value more padding o.tag o.size o.value left.bytes
    list.level begins b in
    let P : List ℕ → Type 0 = λ x. Spells rest x list.level in (
      PrimitiveItem tag value,
      rest,
      refl,
      (sym one.0, kind, sym one.1),
      rw kept
          (subst P one.2 others),
    )
next_is_first list left o (Template tag children rest)
    (q, size, value, more, begins, kind, inner, others) ((padding, b), same, kept) =
    let one = one_object list.bytes q tag size value more padding o.tag o.size o.value left.bytes
    list.level begins b in
    let P : List ℕ → Type 0 = λ x. Spells rest x list.level in
    let Q : List ℕ → Type 0 = λ x. Spells children x (suc list.level) in (
      TemplateItem tag children,
      rest,
      refl,
      (sym one.0, kind, rw (same, add-one) (subst Q one.1 inner)),
      rw kept (subst P one.2 others),
    )

pub none_is_empty : (list left : ObjectList) (forest : Forest) → Spells forest list.bytes list.level
    → GivesNext list None left → forest ≡ Empty
none_is_empty list left Empty spells gives = refl
none_is_empty list left (Primitive tag value rest) (q, size, more, begins, kind, others) gives =
    absurd (no_object list.bytes q tag size value more list.level gives.0 begins)
none_is_empty list left (Template tag children rest)
    (q, size, value, more, begins, kind, inner, others) gives =
    absurd (no_object list.bytes q tag size value more list.level gives.0 begins)
