use Rattle.std.proofs.Common.{◌≡◌, ◌&&◌, drop}
use Rattle.trace_explain.specs.Written.{are_printable}
use Rattle.trace_explain.proofs.write.ascii.are_printable.Given as goal

-- all are, if those so far and those that are left are
abbrev pub invariant-loop-byte : goal.invariant-loop-byte
invariant-loop-byte l =
    are_printable l.bytes ≡ (l.are && are_printable (drop l.byte-index l.bytes))
