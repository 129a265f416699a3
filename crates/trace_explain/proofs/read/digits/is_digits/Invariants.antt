use Rattle.std.proofs.Common.{◌≡◌, drop}
use Rattle.trace_explain.specs.Patterns.{is_digits, is_digits_from}
use Rattle.trace_explain.proofs.read.digits.is_digits.Given as goal

-- The rest decides, and whether there was a digit.
abbrev pub invariant-loop-byte : goal.invariant-loop-byte
invariant-loop-byte l = is_digits l.line ≡ is_digits_from l.has_digit (drop l.byte-index l.line)
