use Rattle.std.proofs.Common.{take}
use Rattle.trace_explain.specs.Trace.{AreOfLine}
use Rattle.trace_explain.proofs.explain.line_len.Given as goal

-- The bytes so far end no line.
abbrev pub invariant-loop-place : goal.invariant-loop-place
invariant-loop-place l = AreOfLine (take l.place l.bytes)
