use Rattle.std.proofs.Common.{◌-◌}
use Rattle.card_trace.proofs.ObjectsLemmas.{Printed}
use Rattle.card_trace.proofs.text.+push_objects.Given as goal

abbrev pub decreases-push_objects : goal.decreases-push_objects
decreases-push_objects g l = 17 - l.objects.level

-- the written text, and what the rest of the list spells
abbrev pub invariant-loop-object : goal.invariant-loop-object
invariant-loop-object g l =
    (goal.iterator-loop-object g).can_next l.object-iterator ×
    (goal.iterator-loop-object g).is_finite l.object-iterator ×
    Printed l.below l.fn.objects l.object-iterator l.fn.text.items l.text.items
