use Rattle.std.proofs.Common.{take}
use Rattle.t0_core.specs.declared.end.End.TheVariants.{Terminal}
use Rattle.t0_core.specs.CardTaking.{IsTaken}
use Rattle.t0_core.specs.History.{Passed}
use Rattle.command_card.specs.Giving.{LedLent, given_card}
use Rattle.command_card.proofs.GivenEndLemmas.{one_leads}
use Rattle.command_card.proofs.LendingLemmas.{many_lead}
use Rattle.command_card.proofs.given_end.take_bytes_at.Goals as goal

pub returns : goal.returns
returns c = record {
  led = λ first hs bytes lent. many_lead Terminal (IsTaken given_card) (λ hs e. LedLent first hs e)
      (λ old new b hs step bytes lent. one_leads c.the_line_leads_on_after_lending.ensures.line
      first old new hs (Passed (Terminal, b)) bytes step.led lent)
      (take c.take_bytes.result c.args.bytes.now) c.args.end.now c.take_bytes.new.self hs
      c.take_bytes.ensures.taken bytes lent;
}
