use Rattle.card_terminal.proofs.FetchLemmas.{goes_by_runs}
use Rattle.card_terminal.proofs.TalkLemmas.{talk_answers}
use Rattle.card_terminal.proofs.talk_laws.a_talk_of_an_operation_is_one_step.Goals as goal
use Rattle.card_terminal.specs.Talk.{talk_dialogues}

pub returns : goal.returns
returns c = λ old new plans operation exchanges answer idle cuts talk runs.
    talk_answers old new operation exchanges answer idle talk
    (goes_by_runs old new (talk_dialogues exchanges) plans cuts runs)
