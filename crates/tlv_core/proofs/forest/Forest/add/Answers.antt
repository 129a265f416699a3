use Rattle.std.proofs.Common.{arith}
use Rattle.tlv_core.proofs.ItemLists.{kept-push, forest_of-push}
use Rattle.tlv_core.proofs.forest.Forest.add.Goals as goal

pub invariant_of-self-2 : goal.invariant_of-self-2
invariant_of-self-2 g c =
    rw c.in_ok-push.ensures.items
    (kept-push c.self.inside.nodes.items c.args.node c.self.inside.written c.self.inside.levels
    c.args.size c.args.depth
    c.min-self-inside.result c.max-self-inside.result c.self.invariant c.requires.sound
    c.requires.is_size c.requires.is_depth c.requires.in_depth (omega arith)
    (omega arith))

pub returns-clause-ok : goal.returns-clause-ok
returns-clause-ok g c =
    rw (c.in_ok-push.ensures.items, ← c.self.view_is)
    (forest_of-push c.self.inside.nodes.items c.args.node)
