use Rattle.std.specs.List.{flat_map}
use Rattle.exchange_core.specs.Gathered.{dialogues_of}
use Rattle.exchange_core.specs.ExchangeSide.{so_far}
use Rattle.card_terminal.proofs.FetchLemmas.{goes_by_runs}
use Rattle.card_terminal.proofs.BoundLemmas.{open_exchange_brings, so_far_brings}
use Rattle.card_terminal.proofs.talk_laws.an_exchange_fits.Goals as goal

pub returns-clause-whole : goal.returns-clause-whole
returns-clause-whole c = λ command units plans old new sound cuts is_open runs.
    open_exchange_brings command units old new sound is_open (goes_by_runs old new
    (flat_map dialogues_of units) plans cuts runs)

pub returns-clause-so_far : goal.returns-clause-so_far
returns-clause-so_far c = λ command units opening left first plans old new sound cuts followed
    repeats runs.
    so_far_brings command units opening left first old new sound followed repeats
    (goes_by_runs old new (so_far units first) plans cuts runs)
