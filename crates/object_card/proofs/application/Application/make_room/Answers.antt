use Rattle.std.proofs.Common.{◌≡◌, true, sym, ◌∙◌, subst, inl}
use Rattle.std.specs.Prelude.{is_some}
use Rattle.std.proofs.lemmas.Bool.{true≢false}
use Rattle.tlv_core.specs.contracts.object_tag.ObjectTagPartialEq.TheImpl.{eq-value}
use Rattle.object_card.specs.Tables.{value_under}
use Rattle.object_card.specs.CardFields.{ApplicationView, HasPlace}
use Rattle.object_card.proofs.SameTag.{same_tag}
use Rattle.object_card.proofs.Stored as stored
use Rattle.object_card.proofs.application.Application.make_room.Goals as goal

pub returns-then-contains_key-clause-ok : goal.returns-then-contains_key-clause-ok
returns-then-contains_key-clause-ok g c =
    let Goal : ApplicationView → Type 0 = λ a. HasPlace a c.args.tag in
    subst Goal c.self.view_is
    (inl (stored.is_under (λ h. h.value.items) (λ h. h.locked) eq-value.it same_tag c.args.tag
    c.self.inside.objects.entries
    ∙ sym c.contains_key.ensures ∙ c.if-contains_key.true))

pub returns-clause-held : goal.returns-clause-held
returns-clause-held g c = λ held.
    let IsThere : ApplicationView → Type 0 = λ a. is_some (value_under c.args.tag a.entries)
    ≡ true in
    let there = subst IsThere (sym c.self.view_is) held in
    absurd (true≢false (sym there
    ∙ stored.is_under (λ h. h.value.items) (λ h. h.locked) eq-value.it same_tag c.args.tag
    c.self.inside.objects.entries
    ∙ sym c.contains_key.ensures ∙ c.if-contains_key.false))
