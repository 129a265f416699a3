use Rattle.std.proofs.Common.{◌≡◌, drop}
use Rattle.trace_explain.specs.Patterns.{begun}
use Rattle.trace_explain.proofs.read.pattern.begun.Given as goal

-- The rest decides.
abbrev pub invariant-loop-part : goal.invariant-loop-part
invariant-loop-part l = begun l.parts l.line ≡ begun (drop l.part-index l.parts) l.rest
