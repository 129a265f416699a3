use Rattle.std.proofs.Common.{◌≡◌, sym, ap, ◌∙◌, subst}
use Rattle.std.specs.Prelude.{false}
use Rattle.std.specs.Option.{option_copied}
use Rattle.tlv_core.specs.contracts.object_tag.ObjectTagPartialEq.TheImpl.{eq-value}
use Rattle.object_card.specs.Tables.{is_locked}
use Rattle.object_card.specs.CardFields.{ApplicationView}
use Rattle.object_card.proofs.SameTag.{same_tag}
use Rattle.object_card.proofs.Stored as stored
use Rattle.object_card.proofs.application.Application.is_locked.Goals as goal

pub returns-in-Some : goal.returns-in-Some
returns-in-Some g c =
    let Goal : ApplicationView → Type 0 = λ a. c.in-Some.held.now.locked
    ≡ is_locked c.args.tag a.entries in
    subst Goal c.self.view_is (stored.locked-found (λ h. h.value.items)
    (λ h. h.locked) eq-value.it same_tag c.args.tag
    c.self.inside.objects.entries c.in-Some.held.now
    (sym (ap option_copied c.in-Some.is) ∙ c.get.ensures.value))

pub returns-in-None : goal.returns-in-None
returns-in-None g c =
    let Goal : ApplicationView → Type 0 = λ a. false ≡ is_locked c.args.tag a.entries in
    subst Goal c.self.view_is (stored.not_locked (λ h. h.value.items)
    (λ h. h.locked) eq-value.it same_tag c.args.tag
    c.self.inside.objects.entries (sym (ap option_copied c.in-None.is) ∙ c.get.ensures.value))
