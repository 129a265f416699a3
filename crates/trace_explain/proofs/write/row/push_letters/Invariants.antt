use Rattle.std.proofs.Common.{length}
use Rattle.trace_explain.specs.Written.{letters}
use Rattle.trace_explain.proofs.SheetLemmas.{Completes}
use Rattle.trace_explain.proofs.write.row.push_letters.Given as goal

-- those that are left complete it
abbrev pub invariant-fronts : goal.invariant-fronts
invariant-fronts l = Completes l.initial.sheet (letters l.medium l.indent l.text) l.sheet
    (letters l.medium l.indent l.rest)

abbrev pub decreases-fronts : goal.decreases-fronts
decreases-fronts l = length l.rest
