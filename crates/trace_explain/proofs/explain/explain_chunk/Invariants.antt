use Rattle.std.proofs.Common.{◌++◌, ℕ, List, length}
use Rattle.trace_explain.specs.declared.read.reading.Reading.{Reading}
use Rattle.trace_explain.specs.Account.{Out}
use Rattle.trace_explain.specs.Trace.{HasReceived}
use Rattle.trace_explain.proofs.explain.explain_chunk.Given as goal

-- wherever the chunk began, what is left of it is still to come
abbrev pub invariant-lines : goal.invariant-lines
invariant-lines l = (front : Out) (reading : Reading) (all : List (List ℕ)) (left : List ℕ)
    → HasReceived front reading all l.fn.line.items (l.chunk ++ left) l.fn.explainer
    → HasReceived front reading all l.line.items (l.rest ++ left) l.explainer

abbrev pub decreases-lines : goal.decreases-lines
decreases-lines l = length l.rest
