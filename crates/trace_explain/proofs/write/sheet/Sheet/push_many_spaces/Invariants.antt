use Rattle.std.proofs.Common.{◌-◌}
use Rattle.trace_explain.specs.Written.{spaces}
use Rattle.trace_explain.proofs.SheetLemmas.{Completes}
use Rattle.trace_explain.proofs.write.sheet.Sheet.push_many_spaces.Given as goal

-- those that are left complete it
abbrev pub invariant-loop : goal.invariant-loop
invariant-loop l = Completes l.initial.self (spaces l.count) l.self (spaces (l.count - l.counter))
