use Rattle.apdu_terminal.proofs.LawLemmas.{over_at_end}
use Rattle.apdu_terminal.proofs.laws.a_whole_exchange_of_commands_is_done.Goals as goal

pub returns : goal.returns
returns c = over_at_end
