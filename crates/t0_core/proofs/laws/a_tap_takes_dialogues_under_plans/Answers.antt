use Rattle.t0_core.proofs.TapLineLemmas.{hears_planned}
use Rattle.t0_core.proofs.laws.a_tap_takes_dialogues_under_plans.Goals as goal

pub returns : goal.returns
returns c = hears_planned
