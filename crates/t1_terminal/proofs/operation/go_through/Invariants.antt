use Rattle.std.specs.Vec.{vec_capacity}
use Rattle.std.proofs.Common.{◌≤◌, ◌≡◌, true, List, []}
use Rattle.apdu_core.specs.CommandBytes.{Command}
use Rattle.t0_core.specs.CardSide.{EndOf}
use Rattle.apdu_terminal.specs.ApduOperations.{KeepsLimit, LeadsTo, may_follow}
use Rattle.t1_core.specs.TerminalSide.{is_ready}
use Rattle.t1_terminal.proofs.OperateLemmas.{HasHad}
use Rattle.t1_terminal.proofs.operation.go_through.Given as goal

-- both ends have carried the pairs that led to the operation
abbrev pub invariant-talk : goal.invariant-talk
invariant-talk g l = record {
  ready : is_ready l.ends.terminal.phase ≡ true;
  room : 261 ≤ vec_capacity l.command;
  limit : KeepsLimit l.fn.terminal l.terminal;
  had : (commands : List Command) → LeadsTo commands [] l.fn.terminal.operation
      → HasHad g.C.TpduCard.Does (λ (x : EndOf g.row.C.Denot). g.C.TpduCard.standing x.card)
      (g.L.Line.passed l.fn.line) l.fn.ends commands l.terminal.operation
      (g.L.Line.passed l.line) l.ends;
}

abbrev pub decreases-talk : goal.decreases-talk
decreases-talk g l = may_follow l.terminal.operation
