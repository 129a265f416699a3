use Rattle.std.proofs.Common.{◌≡◌, drop}
use Rattle.trace_explain.specs.Times.{are_decimal}
use Rattle.trace_explain.proofs.read.time.are_decimal.Given as goal

-- The rest decides.
abbrev pub invariant-loop-byte : goal.invariant-loop-byte
invariant-loop-byte l = are_decimal l.bytes ≡ are_decimal (drop l.byte-index l.bytes)
