use Rattle.std.proofs.Common.{◌≡◌, true, []}
use Rattle.t0_core.specs.CardSide.{EndOf}
use Rattle.card_terminal.specs.RunLaws.{HaveReplies}
use Rattle.t1_core.specs.TerminalSide.{is_ready}
use Rattle.t1_terminal.proofs.RunLemmas.{Come}
use Rattle.t1_terminal.proofs.operations.run.Given as goal

-- the operations before this one have their answers
abbrev pub invariant-loop-op : goal.invariant-loop-op
invariant-loop-op g l = record {
  ready : is_ready l.ends.terminal.phase ≡ true;
  have : HaveReplies (λ done replies. Come g.C.TpduCard.Does
      (λ (x : EndOf g.row.C.Denot). g.C.TpduCard.standing x.card)
      (record {
        settings = l.fn.settings;
        first = g.C.TpduCard.standing l.fn.card.card;
        passed = g.L.Line.passed l.fn.line;
      }) (g.L.Line.passed l.line) l.ends done replies) l.ops [] l.op-index l.answers.given;
}
