use Rattle.std.proofs.Common.{◌≡◌, ◌+◌, drop}
use Rattle.trace_explain.specs.Times.{place_of}
use Rattle.trace_explain.proofs.read.time.place_of.Given as goal

-- No such byte precedes this place.
abbrev pub invariant-loop-place : goal.invariant-loop-place
invariant-loop-place l = place_of l.byte l.line ≡ l.place + place_of l.byte (drop l.place l.line)
