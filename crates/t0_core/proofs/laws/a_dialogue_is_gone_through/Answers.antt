use Rattle.t0_core.specs.WholeLaws.{goes_through}
use Rattle.t0_core.proofs.laws.a_dialogue_is_gone_through.Goals as goal

pub returns : goal.returns
returns c = goes_through
