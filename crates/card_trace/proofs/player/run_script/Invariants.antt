use Rattle.card_trace.specs.Playing.{IsAt}
use Rattle.card_trace.specs.Script.{State}
use Rattle.card_trace.proofs.ScriptLoopLemmas.{AreCarriedOut}
use Rattle.card_trace.proofs.player.run_script.Given as goal

-- the lines so far are carried out, and the others are left
abbrev pub invariant-loop-line : goal.invariant-loop-line
invariant-loop-line g l = let s = g.R.Runner.script in (state : State s)
    × IsAt s g.R.Runner.table_of g.R.Runner.StandsFor l.player state
    × AreCarriedOut s l.initial.line-iterator (g.W.Write.contents l.fn.writer)
    (g.W.Write.contents l.writer) state l.line-iterator l.number
