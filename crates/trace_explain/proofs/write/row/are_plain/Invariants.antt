use Rattle.std.proofs.Common.{◌≡◌, ℕ, List, take, true}
use Rattle.trace_explain.specs.Written.{letters}
use Rattle.trace_explain.proofs.write.row.are_plain.Given as goal

-- those so far are such
abbrev pub invariant-loop-byte : goal.invariant-loop-byte
invariant-loop-byte l = l.are ≡ true → (indent : List ℕ)
    → letters l.medium indent (take l.byte-index l.bytes) ≡ take l.byte-index l.bytes
