use Rattle.apdu_terminal.proofs.LawLemmas.{next_due}
use Rattle.apdu_terminal.proofs.laws.the_next_command_is_settled.Goals as goal

pub returns : goal.returns
returns c = next_due
