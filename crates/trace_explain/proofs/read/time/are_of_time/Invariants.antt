use Rattle.std.proofs.Common.{◌≡◌, drop}
use Rattle.trace_explain.specs.Times.{are_of_time}
use Rattle.trace_explain.proofs.read.time.are_of_time.Given as goal

-- The rest decides.
abbrev pub invariant-loop-byte : goal.invariant-loop-byte
invariant-loop-byte l = are_of_time l.has_zone l.bytes
    ≡ are_of_time l.has_zone (drop l.byte-index l.bytes)
