use Rattle.std.proofs.Common.{◌≡◌, drop}
use Rattle.trace_explain.specs.Times.{behind_spaces}
use Rattle.trace_explain.proofs.read.time.behind_spaces.Given as goal

-- Spaces alone precede this place.
abbrev pub invariant-loop-place : goal.invariant-loop-place
invariant-loop-place l = behind_spaces l.line ≡ behind_spaces (drop l.place l.line)
