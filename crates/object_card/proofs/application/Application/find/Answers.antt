use Rattle.std.proofs.Common.{◌≡◌, subst}
use Rattle.std.specs.Prelude.{option_map, Some}
use Rattle.tlv_core.specs.contracts.object_tag.ObjectTagPartialEq.TheImpl.{eq-value}
use Rattle.object_card.specs.Tables.{value_under}
use Rattle.object_card.specs.CardFields.{ApplicationView, value_at}
use Rattle.object_card.proofs.SameTag.{same_tag}
use Rattle.object_card.proofs.Stored as stored
use Rattle.object_card.proofs.application.Application.find.Goals as goal

pub returns-clause-value : goal.returns-clause-value
returns-clause-value g c =
    let Goal : ApplicationView → Type 0 = λ a. option_map (λ place. value_at a.entries (Some place))
    c.get_index_of.result ≡ value_under c.args.tag a.entries in
    subst Goal c.self.view_is (stored.value-found (λ h. h.value.items)
    (λ h. h.locked) eq-value.it same_tag c.args.tag
    c.self.inside.objects.entries c.get_index_of.result c.get_index_of.ensures.found
    c.get_index_of.ensures.value)
