use Rattle.std.proofs.Common.{◌≡◌, drop}
use Rattle.atr_core.specs.Answer.{xor_onto}
use Rattle.atr_core.proofs.characters.xor_of.Given as goal

-- the sum so far, combined with the bytes that are left
abbrev pub invariant-loop-byte : goal.invariant-loop-byte
invariant-loop-byte l = xor_onto l.sum (drop l.byte-index l.bytes) ≡ xor_onto 0 l.bytes
