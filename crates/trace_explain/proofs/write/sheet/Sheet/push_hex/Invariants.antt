use Rattle.std.proofs.Common.{drop}
use Rattle.hex.specs.Hex.{encode_upper}
use Rattle.trace_explain.proofs.SheetLemmas.{Completes}
use Rattle.trace_explain.proofs.write.sheet.Sheet.push_hex.Given as goal

-- those that are left complete it
abbrev pub invariant-loop-byte : goal.invariant-loop-byte
invariant-loop-byte l = Completes l.initial.self (encode_upper l.bytes) l.self
    (encode_upper (drop l.byte-index l.bytes))
