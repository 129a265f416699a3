use Rattle.tlv_core.proofs.ItemLists.{items-forest_of, item_lent}
use Rattle.tlv_core.proofs.forest.Forest.get.Goals as goal

pub returns : goal.returns
returns g c = rw (← c.self.view_is, items-forest_of, ← c.deref.ensures.value)
    (item_lent c.deref.result.now c.args.index c.get.result c.get.ensures.lookup)
