use Rattle.std.proofs.Common.{◌∙◌, sym, ap}
use Rattle.card_terminal.specs.declared.terminal.Terminal.TheInside.{Inside}
use Rattle.card_terminal.proofs.TerminalStepLemmas.{turns, idle_turn, turn_as, settled_at, held}
use Rattle.card_terminal.proofs.terminal.Terminal.next.Goals as goal
use Rattle.card_terminal.proofs.terminal.Terminal.next.Goals.{in-None, in-Some}

pub returns-clause-turn : goal.returns-clause-turn
returns-clause-turn g c = elim c.match-self.branch [
  | in-None w ↦ turn_as _ _ _ _ _ _ (sym w.in-None.is ∙ held c.self.view_is) w.result-is
      (ap (λ (i : Inside g.row.A.Denot). i.operation) w.self-inside-is ∙ w.in-None.is)
      idle_turn
  | in-Some w ↦
      let settled = settled_at c.self.inside.operation w.in-Some.operation
      c.self.invariant.0.settled w.in-Some.is in
      turn_as _ _ _ _ _ _ (sym w.in-Some.is ∙ held c.self.view_is) w.result-is
      (ap (λ (i : Inside g.row.A.Denot). i.operation) w.self-inside-is)
      (turns w.in-Some.operation w.next.new.self w.next.result w.next.ensures.turn
      w.next.ensures.rest w.next.ensures.bounds (w.next.ensures.settled settled))
]
