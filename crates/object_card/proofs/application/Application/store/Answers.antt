use Rattle.std.proofs.Common.{◌≡◌, sym, ap, ◌∙◌, subst, map}
use Rattle.indexmap.specs.IndexMap.{spare}
use Rattle.object_card.specs.Tables.{with_entry}
use Rattle.tlv_core.specs.contracts.object_tag.ObjectTagPartialEq.TheImpl.{eq-value}
use Rattle.object_card.specs.CardFields.{ApplicationView, HasPlace}
use Rattle.object_card.proofs.SameTag.{same_tag}
use Rattle.object_card.proofs.Stored as stored
use Rattle.object_card.proofs.application.Application.store.Goals as goal

pub unwrap-requires : goal.unwrap-requires
unwrap-requires g c =
    let Place : ApplicationView → Type 0 = λ a. HasPlace a c.args.tag in
    stored.inserted (λ h. h.value.items) (λ h. h.locked) eq-value.it same_tag c.args.tag
    c.self.inside.objects.entries (spare c.self.inside.objects)
    c.insert.result (subst Place (sym c.self.view_is) c.requires) c.insert.ensures.absent
    c.insert.ensures.succeeds

pub returns-clause-entries : goal.returns-clause-entries
returns-clause-entries g c =
    let Goal : ApplicationView → Type 0 = λ a. map
    (λ e. record { tag = e.0; value = e.1.value.items; locked = e.1.locked })
    c.insert.new.self.entries
    ≡ with_entry c.args.tag c.args.value.items c.args.locked a.entries in
    subst Goal c.self.view_is
    (ap (λ es. map (λ e. record { tag = e.0; value = e.1.value.items; locked = e.1.locked }) es)
    (stored.when_ok c.insert.result c.unwrap.result c.unwrap.ensures c.insert.ensures.entries)
    ∙ stored.entries-insert (λ h. h.value.items) (λ h. h.locked) eq-value.it same_tag c.args.tag
    c.self.inside.objects.entries
    (record { value = c.args.value; locked = c.args.locked }))
