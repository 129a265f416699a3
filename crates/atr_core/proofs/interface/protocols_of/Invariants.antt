use Rattle.std.proofs.Common.{◌≡◌, ◌≤◌, ◌++◌, length, drop, None}
use Rattle.atr_core.specs.Values.{offered}
use Rattle.atr_core.proofs.interface.protocols_of.Given as goal

-- the protocols so far, followed by those of the groups that are left
abbrev pub invariant-loop-named : goal.invariant-loop-named
invariant-loop-named l =
    (l.protocols.items ++ offered l.last (drop l.named-index l.others) ≡ offered None l.others)
    × (length l.protocols.items ≤ l.named-index)
