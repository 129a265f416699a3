use Rattle.std.proofs.Common.{◌≡◌, ◌∙◌, subst}
use Rattle.std.specs.Prelude.{Some}
use Rattle.object_card.specs.CardFields.{ApplicationView, value_at}
use Rattle.object_card.proofs.Stored as stored
use Rattle.object_card.proofs.application.Application.value.Goals as goal

pub returns : goal.returns
returns g c =
    let Goal : ApplicationView → Type 0 = λ a. c.value.result.now
    ≡ value_at a.entries (Some c.args.place) in
    subst Goal c.self.view_is (c.value.ensures ∙ stored.value-at (λ h. h.value.items)
    (λ h. h.locked) c.self.inside.objects.entries c.args.place
    c.index.result.now c.index.ensures)
