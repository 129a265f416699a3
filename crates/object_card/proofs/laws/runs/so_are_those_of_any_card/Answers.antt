use Rattle.object_card.proofs.HistoryLemmas.{runs_over_stand}
use Rattle.object_card.proofs.ShownPutLemmas.{tables_are_shown}
use Rattle.object_card.proofs.laws.runs.so_are_those_of_any_card.Goals as goal

pub returns : goal.returns
returns g c = λ state_of stands first last items none nothing runs.
    tables_are_shown (state_of first) (state_of last) items none nothing
    (runs_over_stand _ _ state_of stands first last items runs)
