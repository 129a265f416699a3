use Rattle.tlv_core.proofs.OneForest.{same_forest}
use Rattle.tlv_core.proofs.forest_laws.one_forest.Goals as goal

pub returns : goal.returns
returns c = same_forest
