use Rattle.t0_core.proofs.HistoryCutting.{one_cutting}
use Rattle.t0_core.proofs.laws.events_have_one_cutting.Goals as goal

pub returns : goal.returns
returns c = one_cutting
