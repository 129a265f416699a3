use Rattle.apdu_terminal.proofs.LawLemmas.{few_commands}
use Rattle.apdu_terminal.proofs.laws.an_exchange_has_few_commands.Goals as goal

pub returns : goal.returns
returns c = few_commands
