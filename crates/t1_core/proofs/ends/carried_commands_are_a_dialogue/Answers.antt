use Rattle.std.proofs.Common.{refl, [], append-nil}
use Rattle.t1_core.proofs.Carrying.{conversed}
use Rattle.t1_core.proofs.ends.carried_commands_are_a_dialogue.Goals as goal

pub returns : goal.returns
returns g c = λ past passed e h stopped.
    conversed g.C.Applet past passed e past.commands [] h stopped (append-nil past.commands)
    (λ ready. refl)
