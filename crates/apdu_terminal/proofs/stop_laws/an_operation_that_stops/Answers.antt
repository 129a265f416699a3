use Rattle.apdu_terminal.proofs.StopLemmas.{stops_after, stops_before}
use Rattle.apdu_terminal.proofs.stop_laws.an_operation_that_stops.Goals as goal

pub returns-clause-before : goal.returns-clause-before
returns-clause-before c = stops_before

pub returns-clause-after : goal.returns-clause-after
returns-clause-after c = stops_after
