use Rattle.std.proofs.Common.{◌≡◌}
use Rattle.trace_explain.proofs.explainer.Explainer.log_line.Given as goal

-- The number of the line stays.
abbrev pub invariant-loop-place : goal.invariant-loop-place
invariant-loop-place l = l.self.line ≡ l.fn.self.line
