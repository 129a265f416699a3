use Rattle.t1_core.proofs.PatienceLemmas.{carried_once}
use Rattle.t1_core.proofs.laws.a_waiting_command_is_carried_out_at_most_once.Goals as goal

pub returns : goal.returns
returns g c = carried_once g.C.Applet
