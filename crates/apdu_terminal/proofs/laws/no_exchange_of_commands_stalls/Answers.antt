use Rattle.apdu_terminal.proofs.StallLemmas.{never_stalls}
use Rattle.apdu_terminal.proofs.laws.no_exchange_of_commands_stalls.Goals as goal

pub returns : goal.returns
returns c = never_stalls
