use Rattle.apdu_terminal.proofs.LawLemmas.{holds_what_came}
use Rattle.apdu_terminal.proofs.laws.an_exchange_holds_what_came.Goals as goal

pub returns : goal.returns
returns c = holds_what_came
