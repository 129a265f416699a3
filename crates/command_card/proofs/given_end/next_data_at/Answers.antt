use Rattle.std.proofs.Common.{◌≡◌, Option, Some, subst}
use Rattle.std.specs.Prelude.{MatchOption}
use Rattle.t0_core.specs.declared.end.End.TheVariants.{Card}
use Rattle.t0_core.specs.CardSending.{IsHandedOut}
use Rattle.t0_core.specs.CardSide.{due_in}
use Rattle.t0_core.specs.History.{Passed}
use Rattle.command_card.specs.Giving.{given_card}
use Rattle.command_card.proofs.GivenEndLemmas.{one_leads}
use Rattle.command_card.proofs.given_end.next_data_at.Goals as goal

pub returns : goal.returns
returns c =
    let old = c.args.end.now in let new = c.next_data.new.self in record {
      led = λ first hs byte is bytes lent.
          let step : IsHandedOut given_card old byte new = subst (λ (o : Option _). MatchOption o
          ((due_in old.stage ≡ 0) × (new ≡ old)) (λ b. IsHandedOut given_card old b new))
          is c.next_data.ensures in
          one_leads c.the_line_leads_on_after_lending.ensures.line first old new hs
          (Passed (Card, byte)) bytes step.led lent;
    }
