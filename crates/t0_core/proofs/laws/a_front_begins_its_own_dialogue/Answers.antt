use Rattle.t0_core.specs.OwnLaws.{begins_own}
use Rattle.t0_core.proofs.laws.a_front_begins_its_own_dialogue.Goals as goal

pub returns : goal.returns
returns c = begins_own
