use Rattle.std.proofs.Common.{◌-◌}
use Rattle.tlv_core.proofs.Grown.{Grows}
use Rattle.tlv_core.proofs.tree.+grow.Given as goal

abbrev pub decreases-grow : goal.decreases-grow
decreases-grow g l = 17 - l.objects.level

abbrev pub invariant-loop-object : goal.invariant-loop-object
invariant-loop-object g l =
    (goal.iterator-loop-object g).can_next l.object-iterator ×
    (goal.iterator-loop-object g).is_finite l.object-iterator ×
    Grows l.forest l.fn.objects l.object-iterator
