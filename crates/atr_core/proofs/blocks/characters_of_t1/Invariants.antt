use Rattle.std.proofs.Common.{◌≡◌, ◌≤◌, drop, length}
use Rattle.atr_core.specs.BlockValues.{characters_of_t1}
use Rattle.atr_core.proofs.blocks.characters_of_t1.Given as goal

-- those of the groups from this index on
abbrev pub invariant-groups : goal.invariant-groups
invariant-groups l =
    (l.place ≤ length l.named) × (l.first ≡ characters_of_t1 (drop l.place l.named))

abbrev pub decreases-groups : goal.decreases-groups
decreases-groups l = l.place
