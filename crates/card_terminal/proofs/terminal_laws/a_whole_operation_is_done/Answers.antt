use Rattle.card_terminal.proofs.TerminalCutting.{operation_done}
use Rattle.card_terminal.proofs.terminal_laws.a_whole_operation_is_done.Goals as goal

pub returns : goal.returns
returns c = operation_done
