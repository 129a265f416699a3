use Rattle.std.proofs.Common.{◌≡◌, drop}
use Rattle.trace_explain.specs.Patterns.{marked_by, marks_from, marks_in}
use Rattle.trace_explain.proofs.read.pattern.marks_in.Given as goal

-- What is marked so far, and what the rest marks.
abbrev pub invariant-loop-part : goal.invariant-loop-part
invariant-loop-part l = marks_in l.parts l.left l.line
    ≡ marks_from (drop l.part-index l.parts) l.left l.rest (marked_by l.marks)
