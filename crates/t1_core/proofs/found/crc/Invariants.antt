use Rattle.std.proofs.Common.{◌≡◌, drop}
use Rattle.t1_core.specs.Items.{crc_onto}
use Rattle.t1_core.proofs.found.crc.Given as goal

-- the sum so far, continued over the rest, is the sum of all bytes
abbrev pub invariant-loop-byte : goal.invariant-loop-byte
invariant-loop-byte l = crc_onto l.sum (drop l.byte-index l.bytes) ≡ crc_onto 65535 l.bytes
