use Rattle.apdu_core.proofs.CommandFacts.{same_command}
use Rattle.apdu_core.proofs.laws.bytes_are_of_one_command.Goals as goal

pub returns : goal.returns
returns c = same_command
