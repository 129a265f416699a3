use Rattle.std.proofs.Common.{◌≡◌, ◌∙◌, refl, sym, ap, Some, None}
use Rattle.t0_core.specs.declared.host_end.HostTurn.TheVariants.{Sends}
use Rattle.card_terminal.specs.declared.terminal.Terminal.TheInside.{Inside}
use Rattle.card_terminal.proofs.TerminalStepLemmas.{turns, turn_as, settled_at, held}
use Rattle.card_terminal.proofs.terminal.Terminal.next_data.Goals as goal
use Rattle.card_terminal.proofs.terminal.Terminal.next_data.Goals.{in-None, in-Some}

pub returns-clause-turn : goal.returns-clause-turn
returns-clause-turn g c = elim c.match-self.branch [
  | in-None w ↦ λ byte is. let e : None ≡ Some byte = sym w.result-is ∙ is in absurd (cc)
  | in-Some w ↦ λ byte is.
      let settled = settled_at c.self.inside.operation w.in-Some.operation
      c.self.invariant.0.settled w.in-Some.is in
      let step = w.next_data.ensures.turn byte (sym w.result-is ∙ is) in
      turn_as _ _ _ _ _ _ (sym w.in-Some.is ∙ held c.self.view_is) refl
      (ap (λ (i : Inside g.row.A.Denot). i.operation) w.self-inside-is)
      (turns w.in-Some.operation w.next_data.new.self (Sends byte) step
      w.next_data.ensures.rest step.bounds (w.next_data.ensures.settled settled))
]
