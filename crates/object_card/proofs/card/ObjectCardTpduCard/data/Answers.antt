use Rattle.std.proofs.Common.{◌≡◌, ◌∙◌, sym, ap, subst, List, length, None}
use Rattle.std.specs.Prelude.{option_map}
use Rattle.std.proofs.lemmas.List.{with_items_is}
use Rattle.t0_core.specs.Meaning.{IsReceiving, Decides, Prepared, taken_with}
use Rattle.object_card.specs.State.{CardState}
use Rattle.object_card.specs.CardMeaning.{Does}
use Rattle.object_card.specs.CardFields.{ApplicationView, state_of}
use Rattle.object_card.specs.CardView.{IsReady, IsStanding, prepared_of, standing_chain}
use Rattle.object_card.proofs.CardMethodLemmas as lemmas
use Rattle.object_card.proofs.card.ObjectCardTpduCard.data.Goals as goal

pub take_data-taken-requires-clause-standing : goal.take_data-taken-requires-clause-standing
take_data-taken-requires-clause-standing g c =
    let at_work = lemmas.takes c.self.inside.applications.items c.self.inside.selected
    c.self.inside.chain c.self.inside.response
    (option_map (λ p. (p.tag, p.value.items)) c.self.inside.put) c.self.inside.ready _
    (λ ask. length c.args.content.now ≡ ask.p3) c.self.invariant c.self.view_is c.requires in
    let Stands : List ApplicationView → Type 0 =
    λ xs. IsStanding xs c.self.inside.selected c.self.inside.chain c.self.inside.response in
    subst Stands (sym c.deref_mut.ensures.value) at_work.standing

pub take_data-taken-requires-clause-fits : goal.take_data-taken-requires-clause-fits
take_data-taken-requires-clause-fits g c =
    let at_work = lemmas.takes c.self.inside.applications.items c.self.inside.selected
    c.self.inside.chain c.self.inside.response
    (option_map (λ p. (p.tag, p.value.items)) c.self.inside.put) c.self.inside.ready _
    (λ ask. length c.args.content.now ≡ ask.p3) c.self.invariant c.self.view_is c.requires in
    let Fits : List ApplicationView → Type 0 = λ xs. IsReady xs c.self.inside.selected
    c.self.inside.chain c.self.inside.response c.self.inside.ready None in
    subst Fits (sym c.deref_mut.ensures.value) at_work.fits

pub take_data-taken-requires-clause-receives : goal.take_data-taken-requires-clause-receives
take_data-taken-requires-clause-receives g c =
    let at_work = lemmas.takes c.self.inside.applications.items c.self.inside.selected
    c.self.inside.chain c.self.inside.response
    (option_map (λ p. (p.tag, p.value.items)) c.self.inside.put) c.self.inside.ready _
    (λ ask. length c.args.content.now ≡ ask.p3) c.self.invariant c.self.view_is c.requires in
    let Long : Prepared CardState → Type 0 = λ p. IsReceiving p
    (λ ask. length c.args.content.now ≡ ask.p3) in
    let Here : List ApplicationView → Type 0 = λ xs. Long
    (prepared_of xs c.self.inside.selected c.self.inside.chain c.self.inside.response
    c.self.inside.ready None) in
    subst Here (sym c.deref_mut.ensures.value)
    (subst Long (sym at_work.same_prepared) c.requires)

pub returns-clause-stands : goal.returns-clause-stands
returns-clause-stands g c =
    let at_work = lemmas.takes c.self.inside.applications.items c.self.inside.selected
    c.self.inside.chain c.self.inside.response
    (option_map (λ p. (p.tag, p.value.items)) c.self.inside.put) c.self.inside.ready _
    (λ ask. length c.args.content.now ≡ ask.p3) c.self.invariant c.self.view_is c.requires in
    let is = with_items_is c.self.inside.applications c.take_data-taken.new.applications
    (c.take_data-taken.auto.applications ∙ c.deref_mut.ensures.len) in
    ap (λ xs. state_of xs c.self.inside.selected
    (standing_chain c.take_data-taken.new.chain c.take_data-taken.result.ready)
    c.self.inside.response) is
    ∙ c.take_data-taken.ensures.keeps
    ∙ ap (λ xs. state_of xs c.self.inside.selected c.self.inside.chain c.self.inside.response)
    c.deref_mut.ensures.value
    ∙ at_work.same_state

pub returns-clause-decided : goal.returns-clause-decided
returns-clause-decided g c =
    let at_work = lemmas.takes c.self.inside.applications.items c.self.inside.selected
    c.self.inside.chain c.self.inside.response
    (option_map (λ p. (p.tag, p.value.items)) c.self.inside.put) c.self.inside.ready _
    (λ ask. length c.args.content.now ≡ ask.p3) c.self.invariant c.self.view_is c.requires in
    let new = c.take_data-taken.new.applications in
    let next = option_map (λ p. (p.tag, p.value.items)) c.take_data-taken.result.put in
    let is = with_items_is c.self.inside.applications new
    (c.take_data-taken.auto.applications ∙ c.deref_mut.ensures.len) in
    let after : List ApplicationView → Prepared CardState =
    λ xs. prepared_of xs c.self.inside.selected c.take_data-taken.new.chain
    c.self.inside.response c.take_data-taken.result.ready next in
    let Decided : CardState → Prepared CardState → Prepared CardState → Type 0 =
    λ s p now. IsReceiving now (λ ask. Decides Does s ask.cut
    (taken_with ask c.args.content.now c.take_data-taken.result.status) p) in
    let Was : List ApplicationView → Type 0 = λ xs. Decided
    (state_of xs c.self.inside.selected c.self.inside.chain c.self.inside.response) (after new)
    (prepared_of xs c.self.inside.selected c.self.inside.chain c.self.inside.response
    c.self.inside.ready None) in
    let State : CardState → Type 0 = λ s. Decided s (after new)
    (prepared_of c.self.inside.applications.items c.self.inside.selected c.self.inside.chain
    c.self.inside.response c.self.inside.ready None) in
    let Now : Prepared CardState → Type 0 = Decided c.args.self.now.state (after new) in
    let New : List ApplicationView → Type 0 = λ xs. Decided c.args.self.now.state (after xs)
    c.args.self.now.prepared in
    subst New (sym is) (subst Now at_work.same_prepared (subst State at_work.same_state
    (subst Was c.deref_mut.ensures.value c.take_data-taken.ensures.decided)))
