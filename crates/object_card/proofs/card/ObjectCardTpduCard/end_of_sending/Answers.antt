use Rattle.std.proofs.Common.{◌∙◌, sym, ap, subst, List, Option, None}
use Rattle.std.specs.Prelude.{option_map}
use Rattle.apdu_core.specs.Chaining.{ChainState}
use Rattle.t0_core.specs.Meaning.{IsSending, Decides, Prepared, answered_with}
use Rattle.object_card.specs.State.{CardState}
use Rattle.object_card.specs.CardMeaning.{Does}
use Rattle.object_card.specs.CardFields.{ApplicationView, state_of}
use Rattle.object_card.specs.CardView.{NewValue, IsReady, IsStanding, prepared_of}
use Rattle.object_card.proofs.CardMethodLemmas as lemmas
use Rattle.object_card.proofs.card.ObjectCardTpduCard.end_of_sending.Goals as goal

pub invariant_of-self : goal.invariant_of-self
invariant_of-self g c =
    let held = c.self.inside.applications.items in
    let at_work = lemmas.sends held c.self.inside.selected c.self.inside.chain
    c.self.inside.response (option_map (λ p. (p.tag, p.value.items)) c.self.inside.put)
    c.self.inside.ready _ (λ ask bytes. Unit {0}) c.self.invariant c.self.view_is c.requires in
    let Stands : ChainState → Type 0 = λ x. IsStanding held c.self.inside.selected x
    c.self.inside.response in
    let Fits : List ApplicationView → Type 0 = λ xs. IsReady xs c.self.inside.selected
    c.self.inside.chain c.self.inside.response c.sent-ready.result.0 None in
    let Puts : Option NewValue → Type 0 = λ v. IsReady held c.self.inside.selected
    c.self.inside.chain c.self.inside.response c.sent-ready.result.0 v in
    record {
      standing = subst Stands (sym c.sent-ready.ensures.keeps) at_work.standing;
      fits = subst Puts (sym at_work.none_put)
          (subst Fits c.deref.ensures.value c.sent-ready.ensures.fits);
    }

pub returns-clause-stands : goal.returns-clause-stands
returns-clause-stands g c =
    let held = c.self.inside.applications.items in
    let at_work = lemmas.sends held c.self.inside.selected c.self.inside.chain
    c.self.inside.response (option_map (λ p. (p.tag, p.value.items)) c.self.inside.put)
    c.self.inside.ready _ (λ ask bytes. Unit {0}) c.self.invariant c.self.view_is c.requires in
    ap (λ x. state_of held c.self.inside.selected x c.self.inside.response)
    c.sent-ready.ensures.keeps ∙ at_work.same_state

pub returns-clause-decided : goal.returns-clause-decided
returns-clause-decided g c =
    let held = c.self.inside.applications.items in
    let at_work = lemmas.sends held c.self.inside.selected c.self.inside.chain
    c.self.inside.response (option_map (λ p. (p.tag, p.value.items)) c.self.inside.put)
    c.self.inside.ready _ (λ ask bytes. Unit {0}) c.self.invariant c.self.view_is c.requires in
    let after : List ApplicationView → Option NewValue → Prepared CardState =
    λ xs v. prepared_of xs c.self.inside.selected c.self.inside.chain c.self.inside.response
    c.sent-ready.result.0 v in
    let Decided : CardState → Prepared CardState → Prepared CardState → Type 0 =
    λ s p now. IsSending now (λ ask bytes. Decides Does s ask.cut
    (answered_with ask bytes c.sent-ready.result.1) p) in
    let Was : List ApplicationView → Type 0 = λ xs. Decided
    (state_of xs c.self.inside.selected c.self.inside.chain c.self.inside.response)
    (after xs None)
    (prepared_of xs c.self.inside.selected c.self.inside.chain c.self.inside.response
    c.self.inside.ready None) in
    let State : CardState → Type 0 = λ s. Decided s (after held None)
    (prepared_of held c.self.inside.selected c.self.inside.chain c.self.inside.response
    c.self.inside.ready None) in
    let Now : Prepared CardState → Type 0 = Decided c.args.self.now.state (after held None) in
    let Puts : Option NewValue → Type 0 = λ v. Decided c.args.self.now.state (after held v)
    c.args.self.now.prepared in
    subst Puts (sym at_work.none_put) (subst Now at_work.same_prepared
    (subst State at_work.same_state
    (subst Was c.deref.ensures.value c.sent-ready.ensures.decided)))
