use Rattle.apdu_terminal.proofs.OperationLemmas.{unsent_begins}
use Rattle.apdu_terminal.proofs.terminal_laws.an_unsent_operation_begins_by_commands.Goals as goal

pub returns : goal.returns
returns c = unsent_begins
