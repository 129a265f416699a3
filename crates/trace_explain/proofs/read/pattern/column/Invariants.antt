use Rattle.std.proofs.Common.{◌≡◌, ◌+◌, drop}
use Rattle.trace_explain.specs.Patterns.{column}
use Rattle.trace_explain.proofs.read.pattern.column.Given as goal

-- No two spaces begin before this place.
abbrev pub invariant-loop-place : goal.invariant-loop-place
invariant-loop-place l = column l.line ≡ l.place + column (drop l.place l.line)
