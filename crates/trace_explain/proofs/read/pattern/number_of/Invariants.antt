use Rattle.std.proofs.Common.{◌≡◌, ◌≤◌, drop}
use Rattle.trace_explain.specs.Patterns.{number_from}
use Rattle.trace_explain.proofs.read.pattern.number_of.Given as goal

-- The number so far, and the digits that are left.
abbrev pub invariant-loop-digit : goal.invariant-loop-digit
invariant-loop-digit l =
    (number_from 0 l.digits ≡ number_from l.number (drop l.digit-index l.digits))
    × (l.number ≤ 9999999)
