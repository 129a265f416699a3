use Rattle.std.proofs.Common.{◌∙◌, ap}
use Rattle.card_terminal.specs.declared.terminal.Terminal.TheInside.{Inside}
use Rattle.card_terminal.proofs.TerminalStepLemmas.{settled_at, held}
use Rattle.card_terminal.proofs.TerminalBufferLemmas.{none_handed_out, hands_out, handed_out}
use Rattle.card_terminal.proofs.terminal.Terminal.next_bytes.Goals as goal
use Rattle.card_terminal.proofs.terminal.Terminal.next_bytes.Goals.{in-None, in-Some}

pub returns-clause-handed : goal.returns-clause-handed
returns-clause-handed g c = elim c.match-self.branch [
  | in-None w ↦ none_handed_out _ _ c.args.bytes.now c.match-self.bytes c.match-self.result _
      (held c.self.view_is) w.in-None.is w.result-is w.bytes-is
      (ap (λ (i : Inside g.row.A.Denot). i.operation) w.self-inside-is ∙ w.in-None.is)
  | in-Some w ↦
      let settled = settled_at c.self.inside.operation w.in-Some.operation
      c.self.invariant.0.settled w.in-Some.is in
      handed_out _ _ w.in-Some.operation w.next_bytes.new.self c.args.bytes.now c.match-self.bytes
      w.next_bytes.new.bytes w.next_bytes.result c.match-self.result _
      (held c.self.view_is)
      w.in-Some.is w.result-is w.bytes-is
      (ap (λ (i : Inside g.row.A.Denot). i.operation) w.self-inside-is)
      (hands_out w.in-Some.operation w.next_bytes.new.self c.args.bytes.now
      w.next_bytes.new.bytes w.next_bytes.result settled w.next_bytes.ensures.handed
      w.next_bytes.ensures.rest (w.next_bytes.ensures.settled settled))
]
