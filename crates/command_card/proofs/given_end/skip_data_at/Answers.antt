use Rattle.std.proofs.Common.{take}
use Rattle.t0_core.specs.declared.end.End.TheVariants.{Card}
use Rattle.t0_core.specs.CardSending.{IsHandedOut}
use Rattle.t0_core.specs.History.{Passed}
use Rattle.command_card.specs.Giving.{LedLent, given_card}
use Rattle.command_card.proofs.GivenEndLemmas.{one_leads}
use Rattle.command_card.proofs.LendingLemmas.{many_lead}
use Rattle.command_card.proofs.given_end.skip_data_at.Goals as goal

pub returns : goal.returns
returns c = record {
  led = λ first hs run due fits bytes lent. many_lead Card (IsHandedOut given_card)
      (λ hs e. LedLent first hs e)
      (λ old new b hs step bytes lent. one_leads c.the_line_leads_on_after_lending.ensures.line
      first old new hs (Passed (Card, b)) bytes step.led lent)
      (take c.args.count run) c.args.end.now c.skip_data.new.self hs
      (c.skip_data.ensures.some run due fits) bytes lent;
}
