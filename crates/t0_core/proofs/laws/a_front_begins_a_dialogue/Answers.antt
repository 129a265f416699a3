use Rattle.t0_core.specs.WholeLaws.{begins}
use Rattle.t0_core.proofs.laws.a_front_begins_a_dialogue.Goals as goal

pub returns : goal.returns
returns c = begins
