use Rattle.std.proofs.Common.{◌≡◌, true}
use Rattle.t0_core.specs.CardTpdu.{rests}
use Rattle.card_terminal.specs.RunLaws.{HaveReplies}
use Rattle.apdu_terminal.proofs.TalkLemmas.{HaveCome}
use Rattle.apdu_terminal.proofs.operations.run.Given as goal

-- The operations before this one have been carried out.
abbrev pub invariant-loop-op : goal.invariant-loop-op
invariant-loop-op g l =
    let card = g.C.TpduCard in
    record {
      rests : rests l.end.stage ≡ true;
      have : HaveReplies (λ done replies. HaveCome card.Does (card.standing l.fn.end.card)
          (card.standing l.end.card) done replies) l.ops l.fn.out.given l.op-index l.out.given;
    }
