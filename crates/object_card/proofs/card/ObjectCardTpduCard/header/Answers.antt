use Rattle.std.proofs.Common.{◌∙◌, sym, ap, subst, List, None}
use Rattle.std.specs.Prelude.{option_map}
use Rattle.apdu_core.specs.Chaining.{ChainState}
use Rattle.t0_core.specs.Meaning.{Ask, Prepared}
use Rattle.t0_core.specs.CardContract.{Judges}
use Rattle.object_card.specs.State.{CardState}
use Rattle.object_card.specs.CardMeaning.{Does}
use Rattle.object_card.specs.CardFields.{ApplicationView, state_of}
use Rattle.object_card.specs.CardView.{CardView, IsReady, IsStanding, prepared_of}
use Rattle.object_card.proofs.CardMethodLemmas as lemmas
use Rattle.object_card.proofs.card.ObjectCardTpduCard.header.Goals as goal

pub give_up-requires : goal.give_up-requires
give_up-requires g c =
    let put = option_map (λ p. (p.tag, p.value.items)) c.self.inside.put in
    lemmas.gives_up c.self.inside.applications.items c.self.inside.selected c.self.inside.chain
    c.self.inside.response c.self.inside.ready put c.self.invariant

pub judged-verdict-requires-clause-standing : goal.judged-verdict-requires-clause-standing
judged-verdict-requires-clause-standing g c =
    let Stands : ChainState → Type 0 = λ x. IsStanding c.self.inside.applications.items
    c.self.inside.selected x c.self.inside.response in
    let Held_here : List ApplicationView → Type 0 =
    λ xs. IsStanding xs c.self.inside.selected c.give_up.new.chain c.self.inside.response in
    subst Held_here (sym c.deref.ensures.value)
    (subst Stands (sym c.give_up.ensures) c.self.invariant.standing)

pub invariant_of-self : goal.invariant_of-self
invariant_of-self g c =
    let Stands : ChainState → Type 0 = λ x. IsStanding c.self.inside.applications.items
    c.self.inside.selected x c.self.inside.response in
    let Fits : List ApplicationView → Type 0 = λ xs. IsReady xs c.self.inside.selected
    c.give_up.new.chain c.self.inside.response c.judged-verdict.result.1 None in
    record {
      standing = subst Stands (sym (c.judged-verdict.ensures.keeps ∙ c.give_up.ensures))
          c.self.invariant.standing;
      fits = subst Fits c.deref.ensures.value c.judged-verdict.ensures.fits;
    }

pub returns-clause-stands : goal.returns-clause-stands
returns-clause-stands g c =
    ap (λ x. state_of c.self.inside.applications.items c.self.inside.selected x
    c.self.inside.response) (c.judged-verdict.ensures.keeps ∙ c.give_up.ensures)
    ∙ ap (λ (v : CardView). v.state) c.self.view_is

pub returns-clause-judged : goal.returns-clause-judged
returns-clause-judged g c =
    let ask : Ask = record { header = c.args.header; p3 = c.args.p3; cut = c.args.cut } in
    let after : List ApplicationView → Prepared CardState =
    λ xs. prepared_of xs c.self.inside.selected c.give_up.new.chain c.self.inside.response
    c.judged-verdict.result.1 None in
    let Was : List ApplicationView → Type 0 = λ xs. Judges Does
    (state_of xs c.self.inside.selected c.give_up.new.chain c.self.inside.response) ask
    c.judged-verdict.result.0 (after xs) in
    let Here : ChainState → Type 0 = λ x. Judges Does
    (state_of c.self.inside.applications.items c.self.inside.selected x c.self.inside.response)
    ask c.judged-verdict.result.0 (after c.self.inside.applications.items) in
    let Seen : CardView → Type 0 = λ v. Judges Does v.state ask c.judged-verdict.result.0
    (after c.self.inside.applications.items) in
    subst Seen c.self.view_is
    (subst Here c.give_up.ensures
    (subst Was c.deref.ensures.value c.judged-verdict.ensures.judged))
