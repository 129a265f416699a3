use Rattle.command_card.specs.Given.{Answers, after_drop, takes_data}
use Rattle.command_card.specs.Giving.{Lends}
use Rattle.command_card.specs.Meaning.{Does}
use Rattle.command_card.specs.View.{after_reset}
use Rattle.command_card.proofs.LendingLemmas.{leads_on_the_line, leads_where_lent, starts}
use Rattle.command_card.proofs.given_laws.the_line_leads_on_after_lending.Goals as goal

pub returns-clause-start : goal.returns-clause-start
returns-clause-start c = starts (Does takes_data Answers) (after_reset after_drop) Lends

pub returns-clause-line : goal.returns-clause-line
returns-clause-line c = leads_on_the_line (Does takes_data Answers) (after_reset after_drop) Lends
    c.events_have_one_cutting.ensures

pub returns-clause-lent : goal.returns-clause-lent
returns-clause-lent c = leads_where_lent (Does takes_data Answers) (after_reset after_drop) Lends
