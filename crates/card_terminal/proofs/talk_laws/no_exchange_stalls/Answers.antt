use Rattle.std.specs.List.{flat_map}
use Rattle.exchange_core.specs.Gathered.{dialogues_of}
use Rattle.card_terminal.proofs.FetchLemmas.{goes_by_runs}
use Rattle.card_terminal.proofs.BoundLemmas.{never_stalls}
use Rattle.card_terminal.proofs.talk_laws.no_exchange_stalls.Goals as goal

pub returns : goal.returns
returns c = λ command units plans old new cuts runs stall.
    never_stalls command units old new stall (goes_by_runs old new
    (flat_map dialogues_of units) plans cuts runs)
