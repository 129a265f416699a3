use Rattle.std.proofs.Common.{◌∙◌, sym, ap}
use Rattle.card_terminal.specs.declared.terminal.Terminal.TheInside.{Inside}
use Rattle.card_terminal.proofs.TerminalStepLemmas.{settled_at, held}
use Rattle.card_terminal.proofs.TerminalBufferLemmas.{taking_all_as}
use Rattle.card_terminal.proofs.terminal.Terminal.take_bytes.Goals as goal
use Rattle.card_terminal.proofs.terminal.Terminal.take_bytes.Goals.{in-None, in-Some}

pub returns-clause-taking : goal.returns-clause-taking
returns-clause-taking g c = elim c.match-self.branch [
  | in-None w ↦ taking_all_as _ _ c.args.bytes.now _ _ _ _ (sym w.in-None.is ∙ held c.self.view_is)
      w.result-is (ap (λ (i : Inside g.row.A.Denot). i.operation) w.self-inside-is ∙ w.in-None.is)
      w.none_taken.ensures
  | in-Some w ↦
      let settled = settled_at c.self.inside.operation w.in-Some.operation
      c.self.invariant.0.settled w.in-Some.is in
      taking_all_as _ _ c.args.bytes.now _ _ _ _ (sym w.in-Some.is ∙ held c.self.view_is)
      w.result-is (ap (λ (i : Inside g.row.A.Denot). i.operation) w.self-inside-is)
      (w.take_bytes.ensures.taking settled)
]
