use Rattle.card_terminal.proofs.TerminalCutting.{operation_next, operation_unfailing}
use Rattle.card_terminal.proofs.terminal_laws.the_next_character_of_an_operation_is_settled.Goals as goal

pub returns : goal.returns
returns c = record { next = operation_next; going = operation_unfailing }
