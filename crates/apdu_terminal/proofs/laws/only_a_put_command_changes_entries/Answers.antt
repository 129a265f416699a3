use Rattle.std.proofs.Common.{ap}
use Rattle.object_card.specs.State.{CardState}
use Rattle.apdu_terminal.proofs.KeepLemmas.{failure_keeps, response_changes}
use Rattle.apdu_terminal.proofs.laws.only_a_put_command_changes_entries.Goals as goal

pub returns-clause-responds : goal.returns-clause-responds
returns-clause-responds g c state_of means old new p responds =
    response_changes g.C.TpduCard.Does (λ s. (state_of s).applications)
    (λ was now t does. c.only_a_put_changes_entries.ensures (state_of was) (state_of now) 256 t
    (means.steps was now 256 t does)) old new p responds

pub returns-clause-failed : goal.returns-clause-failed
returns-clause-failed g c state_of means old new command fault failed =
    failure_keeps g.C.TpduCard (λ s. (state_of s).applications)
    (λ was now t does. c.only_a_put_changes_entries.ensures (state_of was) (state_of now) 256 t
    (means.steps was now 256 t does))
    (λ s. ap (λ (x : CardState). x.applications) (means.resets s)) command old new fault failed
