use Rattle.t0_core.specs.FrontLaws.{goes_on}
use Rattle.t0_core.proofs.laws.goes_on_by_one.Goals as goal

pub returns : goal.returns
returns c = goes_on
