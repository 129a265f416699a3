use Rattle.apdu_terminal.proofs.OperationCourse.{operation_due_next}
use Rattle.apdu_terminal.proofs.terminal_laws.the_next_command_of_an_operation_is_settled.Goals as goal

pub returns : goal.returns
returns c = operation_due_next
