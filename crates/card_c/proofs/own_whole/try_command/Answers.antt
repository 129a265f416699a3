use Rattle.std.proofs.Common.{◌≡◌, ◌≤◌, ℕ, List, Option, length, sym, subst, ◌∙◌, ap, inr, refl, arith}
use Rattle.std.specs.Prelude.{unwrap_or}
use Rattle.apdu_core.specs.CommandBytes.{Command}
use Rattle.apdu_terminal.specs.Apdus.{may_bring}
use Rattle.command_card.specs.Given.{GivenState}
use Rattle.command_card.specs.State.{CardState}
use Rattle.command_card.specs.Wanted.{RespondsAs}
use Rattle.card_c.specs.OwnCalls.{own_card, wait_code}
use Rattle.card_c.specs.WholeCalls.{longest_response}
use Rattle.card_c.proofs.CardApduLemmas.{unwrapped}
use Rattle.card_c.proofs.own_whole.try_command.Goals as goal

pub hand_over-requires-clause-fits : goal.hand_over-requires-clause-fits
hand_over-requires-clause-fits c = omega (
  arith,
  c.if-response-most.false,
  c.from-most.ensures,
  c.unwrap_or.ensures,
  c.in-Ok.ensures.short,
)

pub returns-in-Ok : goal.returns-in-Ok
returns-in-Ok c =
    let a = c.args in let mid = c.respond_to.new.end in let new = c.hand_over.new.end in
    let le_is : c.unwrap_or.result ≡ may_bring a.command.le = c.unwrap_or.ensures
    ∙ ap (λ (o : Option ℕ). unwrap_or o 0) c.le-le.ensures.value ∙ unwrapped a.command.le in
    let enough : longest_response a.command ≤ length a.response.now =
    omega (arith, c.if-response-most.false, c.from-most.ensures, le_is) in
    let Done : Command → CardState GivenState → Type 0 = λ command s.
    RespondsAs (own_card.standing a.end.now.card) command mid.card.fresh s in
    let told = subst (λ (o : Option ℕ). Done (record {
      header = a.command.header;
      content = a.command.content;
      le = o;
    }) (own_card.standing mid.card)) c.le-le.ensures.value
    (subst (λ (xs : List ℕ). Done (record {
      header = a.command.header;
      content = xs;
      le = c.le-le.result;
    }) (own_card.standing mid.card)) c.data.ensures.value
    (subst (λ h. Done (record {
      header = h;
      content = c.data.result.now;
      le = c.le-le.result;
    }) (own_card.standing mid.card)) c.header.ensures.value c.in-Ok.ensures.done)) in
    inr (inr (inr (
      enough,
      sym (ap wait_code c.in-Nothing.ensures),
      refl,
      c.hand_over.ensures.stage ∙ c.respond_to.ensures.stage,
      ap (λ card. card.fresh) c.hand_over.ensures.emptied,
      mid.card.fresh,
      subst (λ (s : CardState GivenState). Done a.command s)
          (sym (ap own_card.standing c.hand_over.ensures.emptied)) told,
      c.hand_over.ensures.copied,
      c.hand_over.ensures.counted,
    )))
