use Rattle.std.proofs.Common.{◌∙◌, sym, ap}
use Rattle.apdu_terminal.specs.declared.terminal.ApduTerminal.TheInside.{Inside}
use Rattle.apdu_terminal.proofs.OperationLemmas.{responds, idle_responds, responding_as, settled_at}
use Rattle.apdu_terminal.proofs.terminal.ApduTerminal.responded.Goals as goal
use Rattle.apdu_terminal.proofs.terminal.ApduTerminal.responded.Goals.{in-None, in-Some}

pub returns-clause-responding : goal.returns-clause-responding
returns-clause-responding g c = elim c.match-self.branch [
  | in-None w ↦ responding_as _ _ _ _ c.args.bytes.now c.args.status _ _
      (sym w.in-None.is ∙ ap (λ x. x.operation) c.self.view_is) w.result-is
      (ap (λ (i : Inside g.row.A.Denot). i.operation) w.self-inside-is ∙ w.in-None.is)
      (idle_responds c.args.bytes.now c.args.status)
  | in-Some w ↦
      let settled = settled_at c.self.inside.operation w.in-Some.operation
      c.self.invariant.settled w.in-Some.is in
      responding_as _ _ _ _ c.args.bytes.now c.args.status _ _
      (sym w.in-Some.is ∙ ap (λ x. x.operation) c.self.view_is) w.result-is
      (ap (λ (i : Inside g.row.A.Denot). i.operation) w.self-inside-is)
      (responds w.in-Some.operation w.responded.new.self c.args.bytes.now c.args.status
      w.responded.result w.responded.ensures.responding.0 settled
      w.responded.ensures.responding.1 w.responded.ensures.responding.2)
]
