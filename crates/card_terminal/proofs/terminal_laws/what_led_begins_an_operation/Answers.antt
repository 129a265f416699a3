use Rattle.card_terminal.proofs.TerminalCutting.{operation_begins}
use Rattle.card_terminal.proofs.terminal_laws.what_led_begins_an_operation.Goals as goal

pub returns : goal.returns
returns c = operation_begins
