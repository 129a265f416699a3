use Rattle.std.proofs.Common.{take}
use Rattle.t0_core.specs.Buffers.{Steps}
use Rattle.card_terminal.specs.Line.{HearsOne}
use Rattle.card_terminal.proofs.session.hear.Given as goal

-- the first `at` characters have been heard
abbrev pub invariant-loop-at : goal.invariant-loop-at
invariant-loop-at g l =
    Steps (HearsOne l.end) (g.W.Watch.hearing l.fn.watch) (take l.at l.bytes)
    (g.W.Watch.hearing l.watch)
