use Rattle.std.proofs.Common.{◌↔◌, drop, None}
use Rattle.atr_core.specs.Answer.{AreInOrder}
use Rattle.atr_core.proofs.written.are_in_order.Given as goal

-- the groups so far are in order
abbrev pub invariant-loop-named : goal.invariant-loop-named
invariant-loop-named l =
    AreInOrder l.last (drop l.named-index l.others) ↔ AreInOrder None l.others
