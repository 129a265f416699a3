use Rattle.t0_core.specs.declared.end.End.TheVariants.{Card}
use Rattle.t0_core.specs.History.{Passed}
use Rattle.command_card.specs.Given.{at_rest, settled}
use Rattle.command_card.specs.View.{prepared_in, standing_in}
use Rattle.command_card.proofs.given_end.turn_at.Goals as goal

pub returns : goal.returns
returns g c =
    let old = c.args.end.now in
    let new = c.turn.new.self in
    record {
      led = λ first hs byte sends bytes lent. c.the_line_leads_on_after_lending.ensures.line first
          (standing_in at_rest old.card) (standing_in at_rest new.card) hs (Passed (Card, byte))
          (prepared_in at_rest settled old.card) (prepared_in at_rest settled new.card) old.stage
          new.stage bytes (λ f events led. c.turn.ensures.led f events byte sends led) lent;
    }
