use Rattle.std.proofs.Common.{◌≡◌, length}
use Rattle.trace_explain.specs.Patterns.{spelled, spelled_from}
use Rattle.trace_explain.proofs.read.digits.spelled.Given as goal

-- The bytes so far, and those of the rest.
abbrev pub invariant-pairs : goal.invariant-pairs
invariant-pairs l = spelled l.is_short l.digits
    ≡ spelled_from l.is_short l.bytes.items l.spot l.rest

abbrev pub decreases-pairs : goal.decreases-pairs
decreases-pairs l = length l.rest

abbrev pub invariant-digits : goal.invariant-digits
invariant-digits l = spelled l.is_short l.digits
    ≡ spelled_from l.is_short l.bytes.items l.spot l.rest

abbrev pub decreases-digits : goal.decreases-digits
decreases-digits l = length l.rest
