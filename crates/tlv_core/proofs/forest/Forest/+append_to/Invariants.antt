use Rattle.std.proofs.Common.{◌≡◌, ◌++◌, take}
use Rattle.tlv_core.specs.Spelling.{encoding}
use Rattle.tlv_core.specs.Items.{forest_of}
use Rattle.tlv_core.proofs.forest.Forest.+append_to.Given as goal

abbrev pub decreases-append_to : goal.decreases-append_to
decreases-append_to g l = goal.size-append_to g l

abbrev pub invariant-loop-node : goal.invariant-loop-node
invariant-loop-node g l = l.bytes.items ≡ l.initial.bytes.items
    ++ encoding (forest_of (take l.node-index l.node-items))
