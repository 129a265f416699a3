use Rattle.apdu_terminal.proofs.OperationCourse.{operation_over}
use Rattle.apdu_terminal.proofs.terminal_laws.a_whole_operation_by_commands_is_done.Goals as goal

pub returns : goal.returns
returns c = operation_over
