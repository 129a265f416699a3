use Rattle.command_card.specs.Given.{at_rest, settled}
use Rattle.command_card.specs.View.{prepared_in, standing_in}
use Rattle.command_card.proofs.given_end.new_end.Goals as goal

pub returns : goal.returns
returns c = record {
  led = c.the_line_leads_on_after_lending.ensures.start (standing_in at_rest c.args.card)
      (standing_in at_rest c.new.result.card) (prepared_in at_rest settled c.new.result.card)
      c.new.result.stage c.new.ensures.led;
}
