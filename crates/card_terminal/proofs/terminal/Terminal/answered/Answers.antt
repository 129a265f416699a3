use Rattle.std.proofs.Common.{◌∙◌, sym, ap}
use Rattle.card_terminal.specs.declared.terminal.Terminal.TheInside.{Inside}
use Rattle.card_terminal.proofs.TerminalStepLemmas.{answering, idle_answered, answering_as, settled_at, held}
use Rattle.card_terminal.proofs.terminal.Terminal.answered.Goals as goal
use Rattle.card_terminal.proofs.terminal.Terminal.answered.Goals.{in-None, in-Some}

pub returns-clause-answering : goal.returns-clause-answering
returns-clause-answering g c = elim c.match-self.branch [
  | in-None w ↦ answering_as _ _ c.args.bytes.now c.args.status _ _ _ _
      (sym w.in-None.is ∙ held c.self.view_is) w.result-is
      (ap (λ (i : Inside g.row.A.Denot). i.operation) w.self-inside-is ∙ w.in-None.is)
      (idle_answered c.args.bytes.now c.args.status)
  | in-Some w ↦
      let settled = settled_at c.self.inside.operation w.in-Some.operation
      c.self.invariant.0.settled w.in-Some.is in
      answering_as _ _ c.args.bytes.now c.args.status _ _ _ _
      (sym w.in-Some.is ∙ held c.self.view_is) w.result-is
      (ap (λ (i : Inside g.row.A.Denot). i.operation) w.self-inside-is)
      (answering w.in-Some.operation w.answered.new.self w.answered.ensures.answering.0 settled
      w.answered.ensures.answering.2 c.args.bytes.now c.args.status w.answered.result
      w.answered.ensures.answering.1)
]
