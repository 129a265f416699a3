use denote.Shadow.{shadow}
use denote.Text.{Utf8}
use Rattle.trace_explain.proofs.read.forms.SignsDisplay.fmt.Given as goal

-- What precedes the next sign is text.
abbrev pub invariant-loop-line : goal.invariant-loop-line
invariant-loop-line g l =
    (goal.iterator-loop-line g).can_next l.line-iterator
    × (goal.iterator-loop-line g).is_finite l.line-iterator
    × shadow (Utf8 l.between)
