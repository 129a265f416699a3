use Rattle.std.proofs.Common.{rules}
use Rattle.tlv_core.proofs.ItemLists.{items-forest_of}
use Rattle.tlv_core.proofs.forest.Forest.len.Goals as goal

pub returns : goal.returns
returns g c = rw (← c.self.view_is, items-forest_of) (search rules)
