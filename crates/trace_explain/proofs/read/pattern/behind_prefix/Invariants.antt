use Rattle.std.proofs.Common.{◌≡◌, drop}
use Rattle.trace_explain.specs.Patterns.{behind_prefix}
use Rattle.trace_explain.proofs.read.pattern.behind_prefix.Given as goal

-- Nothing else precedes this place.
abbrev pub invariant-loop-place : goal.invariant-loop-place
invariant-loop-place l = behind_prefix l.line ≡ behind_prefix (drop l.place l.line)
