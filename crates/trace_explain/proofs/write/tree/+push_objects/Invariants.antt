use Rattle.std.proofs.Common.{◌-◌, length}
use Rattle.trace_explain.proofs.TreeLemmas.{Going}
use Rattle.trace_explain.proofs.write.tree.+push_objects.Given as goal

abbrev pub decreases-push_objects : goal.decreases-push_objects
decreases-push_objects l = 17 - l.objects.level

-- the objects so far, and what is left
abbrev pub invariant-listing : goal.invariant-listing
invariant-listing l =
    Going l.in_json l.mask.tags.items l.fn.objects l.objects l.initial.sheet l.sheet l.some

abbrev pub decreases-listing : goal.decreases-listing
decreases-listing l = length l.objects.bytes
