use Rattle.std.proofs.Common.{length}
use Rattle.trace_explain.proofs.SheetLemmas.{LinesGoOn}
use Rattle.trace_explain.proofs.write.ascii.push_lines.Given as goal

-- the lines of what is left complete it
abbrev pub invariant-lines : goal.invariant-lines
invariant-lines l =
    LinesGoOn l.indent l.width l.is_text l.bytes l.rest l.initial.lines l.lines

abbrev pub decreases-lines : goal.decreases-lines
decreases-lines l = length l.rest
