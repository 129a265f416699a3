use Rattle.std.proofs.Common.{ℕ, List, ◌≡◌, ◌+◌, ◌-◌, ◌++◌, [], length}
use Rattle.std.specs.Io.KnownBytes.{Appends, Consumes}
use Rattle.trace_explain.specs.declared.read.reading.Reading.{Reading}
use Rattle.trace_explain.specs.Account.{Out, out_with}
use Rattle.trace_explain.specs.Trace.{HasReceived, IsReady, lines_from}
use Rattle.trace_explain.proofs.explain.explain_chunks.Given as goal

-- this much was read; what follows is explained or still to come; and the writer got this much
abbrev pub invariant-reading : goal.invariant-reading
invariant-reading g l = (read : List ℕ)
    × Consumes (g.R.Read.remaining l.initial.reader) (g.R.Read.remaining l.reader) read
    × (l.size ≡ length read) × (more : List ℕ)
    × Appends (g.W.Sink.contents l.initial.writer) (g.W.Sink.contents l.writer) more
    × ((first : Out) (reading : Reading) → IsReady first reading l.initial.explainer
    → (left : List ℕ) → HasReceived (out_with first more) reading
    (lines_from [] (read ++ left)) l.line.items left l.explainer)

abbrev pub decreases-reading : goal.decreases-reading
decreases-reading g l = 1099511627776 + 1 - l.size
