use Rattle.t1_core.specs.Carried.{HasCarried, Past}
use Rattle.t1_core.proofs.Endless.{receptions_left}
use Rattle.t1_core.proofs.OneCommandLemmas.{HasAdded}
use Rattle.t1_core.proofs.ends.Ends.carry.Given as goal

-- the exchanges since the command began led to both ends
abbrev pub invariant-exchanges : goal.invariant-exchanges
invariant-exchanges g l = let e = l.self-inside in (past : Past g.C.Applet.State)
    (h : HasCarried g.C.Applet past (g.L.Line.passed l.fn.line) l.fn.self)
    → HasAdded g.C.Applet past l.command (g.L.Line.passed l.fn.line) l.fn.self h
    (g.L.Line.passed l.line) (record { terminal = e.terminal; card = e.card })

abbrev pub decreases-exchanges : goal.decreases-exchanges
decreases-exchanges g l = receptions_left l.self-inside.terminal
