use Rattle.std.proofs.Common.{◌≡◌, ◌∷◌}
use Rattle.std.specs.List.{AllByRecursion}
use Rattle.object_card.specs.State.{IsCardState}
use Rattle.object_card.specs.Agreed.{IsAgreed}
use Rattle.card_terminal.specs.Conversing.{point}
use Rattle.exchange_core.specs.ExchangeSide.{response_limit}
use Rattle.card_terminal.proofs.RunLemmas.{HaveBeen}
use Rattle.card_terminal.proofs.session.Session.chain.Given as goal

-- One command has ended, after those before it, each with the status 9000; the others follow.
abbrev pub invariant-pieces : goal.invariant-pieces
invariant-pieces g l =
    let card = g.C.TpduCard in
    let hearing = g.W.Watch.hearing in
    record {
      been : HaveBeen card.Does
          (point (card.standing l.fn.self) l.fn.plans.rest (hearing l.fn.watch))
          (l.fn.first ∷ l.fn.others) l.command-iterator l.exchange l.status
          (point (card.standing l.self) l.plans.rest (hearing l.watch));
      sound : IsCardState (g.C.DataCard.state l.self);
      room : l.exchange.gather.limit ≡ response_limit;
      agreed : AllByRecursion (λ c. IsAgreed card.MayReceive card.MaySend c) l.command-iterator;
    }
