use Rattle.std.proofs.Common.{◌≡◌, List, take}
use Rattle.trace_explain.specs.Explained.{ExplainsCharacters, HasExplained}
use Rattle.trace_explain.specs.Noted.{Event}
use Rattle.trace_explain.specs.Reports.{Report}
use Rattle.trace_explain.proofs.explainer.Explainer.characters.Given as goal

-- The characters so far are explained.
abbrev pub invariant-loop-place : goal.invariant-loop-place
invariant-loop-place l = ((events : List Event) (before : List Report)
    → HasExplained events before l.fn.self
    → ExplainsCharacters l.source (take l.place l.bytes) events before l.fn.self l.self)
    × (l.self.line ≡ l.fn.self.line)
