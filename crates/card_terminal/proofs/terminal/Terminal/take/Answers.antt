use Rattle.std.proofs.Common.{◌∙◌, sym, ap}
use Rattle.card_terminal.specs.declared.terminal.Terminal.TheInside.{Inside}
use Rattle.card_terminal.proofs.TerminalStepLemmas.{takes, idle_take, taking_as, settled_at, held}
use Rattle.card_terminal.proofs.terminal.Terminal.take.Goals as goal
use Rattle.card_terminal.proofs.terminal.Terminal.take.Goals.{in-None, in-Some}

pub returns-clause-taking : goal.returns-clause-taking
returns-clause-taking g c = elim c.match-self.branch [
  | in-None w ↦ taking_as _ _ c.args.byte _ _ _ _ (sym w.in-None.is ∙ held c.self.view_is)
      w.result-is (ap (λ (i : Inside g.row.A.Denot). i.operation) w.self-inside-is ∙ w.in-None.is)
      (idle_take c.args.byte)
  | in-Some w ↦
      let settled = settled_at c.self.inside.operation w.in-Some.operation
      c.self.invariant.0.settled w.in-Some.is in
      taking_as _ _ c.args.byte _ _ _ _ (sym w.in-Some.is ∙ held c.self.view_is) w.result-is
      (ap (λ (i : Inside g.row.A.Denot). i.operation) w.self-inside-is)
      (takes w.in-Some.operation w.take.new.self w.take.ensures.taking.0 settled
      w.take.ensures.taking.2 c.args.byte w.take.result w.take.ensures.taking.1)
]
