use Rattle.apdu_terminal.proofs.TalkLemmas.{talk_is_one_step}
use Rattle.apdu_terminal.proofs.laws.an_operation_by_whole_commands_is_one_step.Goals as goal

pub returns : goal.returns
returns c = talk_is_one_step
