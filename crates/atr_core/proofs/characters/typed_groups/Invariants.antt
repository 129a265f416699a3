use Rattle.std.proofs.Common.{◌-◌}
use Rattle.atr_core.proofs.Groups.{AreRead}
use Rattle.atr_core.proofs.characters.typed_groups.Given as goal

abbrev pub invariant-groups : goal.invariant-groups
invariant-groups l = AreRead l.bytes l.start l.fn.y l.others.items l.place l.y l.last

abbrev pub decreases-groups : goal.decreases-groups
decreases-groups l = 33 - l.place
