use Rattle.object_card.proofs.ShownPutLemmas.{tables_are_shown}
use Rattle.object_card.proofs.laws.runs.the_tables_are_those_of_the_shown_puts.Goals as goal

pub returns : goal.returns
returns c = tables_are_shown
