use Rattle.std.proofs.Common.{List, take}
use Rattle.trace_explain.specs.Noted.{Event, HasNoted, NotesRun}
use Rattle.trace_explain.specs.Reports.{Report}
use Rattle.trace_explain.proofs.follow.listener.Listener.hear_run.Given as goal

-- It has noted the characters so far.
abbrev pub invariant-loop-place : goal.invariant-loop-place
invariant-loop-place l = (events : List Event) (before : List Report)
    → HasNoted events before l.initial.self
    → NotesRun l.from l.mark (take l.place l.bytes) events before l.self
