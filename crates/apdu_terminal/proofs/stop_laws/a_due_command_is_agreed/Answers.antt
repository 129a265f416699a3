use Rattle.apdu_terminal.proofs.StopLemmas.{due_is_agreed}
use Rattle.apdu_terminal.proofs.stop_laws.a_due_command_is_agreed.Goals as goal

pub returns : goal.returns
returns c = due_is_agreed
