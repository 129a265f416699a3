use Rattle.std.proofs.Common.{◌≡◌, ◌≤◌, ◌+◌, ◌*◌, drop, length}
use Rattle.atr_core.specs.Written.{group_size, groups_size}
use Rattle.atr_core.proofs.written.size.Given as goal

-- the size so far, plus that of the groups that are left
abbrev pub invariant-loop-named : goal.invariant-loop-named
invariant-loop-named l =
    (l.size + groups_size (drop l.named-index l.others)
    ≡ 2 + group_size l.fn.first + length l.historical + groups_size l.others)
    × (l.size ≤ 20 + 4 * l.named-index)
