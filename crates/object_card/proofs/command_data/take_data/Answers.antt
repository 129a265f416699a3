use Rattle.std.proofs.Common.{◌≡◌, sym, subst, ℕ, length, None}
use Rattle.std.specs.Prelude.{option_map}
use Rattle.t0_core.specs.Meaning.{Ask, IsReceiving, Decides, taken_with}
use Rattle.object_card.specs.declared.ready.Ready.{Ready}
use Rattle.object_card.specs.CardMeaning.{Does}
use Rattle.object_card.specs.CardFields.{state_of}
use Rattle.object_card.specs.CardView.{IsReady, prepared_of}
use Rattle.object_card.proofs.PutDataLemmas.{not_select}
use Rattle.object_card.proofs.command_data.take_data.Goals as goal

pub take_put-requires-clause-put : goal.take_put-requires-clause-put
take_put-requires-clause-put g c =
    let Fits : Ready → Type 0 = λ r. IsReady c.args.applications.now c.args.selected
    c.args.chain.now c.args.response r None in
    let fits = subst Fits c.in-Receives.is c.requires.fits in
    not_select c.in-Receives.header fits.1 c.if-header.false

pub returns-clause-decided : goal.returns-clause-decided
returns-clause-decided g c =
    let state = state_of c.args.applications.now c.args.selected c.args.chain.now
    c.args.response in
    let after = prepared_of c.take_put.new.applications c.args.selected c.take_put.new.chain
    c.args.response c.take_put.result.ready
    (option_map (λ p. (p.tag, p.value.items)) c.take_put.result.put) in
    let Receives : (Ask → Type 0) → Ready → Type 0 = λ P r. IsReceiving
    (prepared_of c.args.applications.now c.args.selected c.args.chain.now c.args.response r None)
    P in
    let Decided : Ask → Type 0 = λ ask. Decides Does state ask.cut
    (taken_with ask c.args.content.now c.take_put.result.status) after in
    let Asks : ℕ → Type 0 = λ n. Decided
    (record { header = c.in-Receives.header; p3 = n; cut = c.in-Receives.cut }) in
    let long : length c.args.content.now ≡ c.in-Receives.p3 =
    subst (Receives (λ ask. length c.args.content.now ≡ ask.p3)) c.in-Receives.is
    c.requires.receives in
    subst (Receives Decided) (sym c.in-Receives.is)
    (subst Asks long c.take_put.ensures.decided)
