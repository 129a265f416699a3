use Rattle.std.proofs.Common.{◌≡◌, drop}
use Rattle.t1_core.specs.BlockBytes.{xor_onto}
use Rattle.t1_core.proofs.spelling.lrc.Given as goal

-- the sum so far, continued over the rest, is the sum of all bytes
abbrev pub invariant-loop-byte : goal.invariant-loop-byte
invariant-loop-byte l = xor_onto l.sum (drop l.byte-index l.bytes) ≡ xor_onto 0 l.bytes
