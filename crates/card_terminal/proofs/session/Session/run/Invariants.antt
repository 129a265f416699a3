use Rattle.std.proofs.Common.{◌≡◌, true}
use Rattle.object_card.specs.State.{is_idle}
use Rattle.card_terminal.specs.Conversing.{point}
use Rattle.card_terminal.proofs.RunLemmas.{HaveAnswers}
use Rattle.card_terminal.proofs.session.Session.run.Given as goal

-- The operations before this one have been carried out, and no chain is pending.
abbrev pub invariant-loop-op : goal.invariant-loop-op
invariant-loop-op g l =
    let card = g.C.TpduCard in
    let state = g.C.DataCard.state in
    let hearing = g.W.Watch.hearing in
    record {
      have : HaveAnswers card.Does
          (point (card.standing l.fn.self) l.fn.plans.rest (hearing l.fn.watch))
          (state l.fn.self) l.ops l.fn.out.given l.op-index l.out.given
          (point (card.standing l.self) l.plans.rest (hearing l.watch)) (state l.self);
      idle : is_idle (state l.self).pending ≡ true;
    }
