use Rattle.apdu_terminal.proofs.TalkLemmas.{talks_are_single_steps}
use Rattle.apdu_terminal.proofs.laws.operations_by_whole_commands_are_single_steps.Goals as goal

pub returns : goal.returns
returns c = talks_are_single_steps
