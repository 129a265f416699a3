use Rattle.std.proofs.Common.{◌≡◌, ◌≤◌, true, false}
use Rattle.apdu_core.specs.CommandBytes.{Command}
use Rattle.t0_core.specs.CardTpdu.{rests}
use Rattle.apdu_terminal.specs.Apdus.{may_bring}
use Rattle.apdu_terminal.specs.ApduSide.{has_failed, to_go}
use Rattle.apdu_terminal.specs.CardApdu.{HasCome}
use Rattle.apdu_terminal.proofs.card_apdu.converse.Given as goal

-- The card has carried out the pairs that led to the exchange, as TPDUs.
abbrev pub invariant-talk : goal.invariant-talk
invariant-talk g l =
    let card = g.C.TpduCard in
    (rests l.end.stage ≡ true) × (has_failed l.exchange.stage ≡ false)
    × (l.exchange.gather.limit ≡ l.fn.exchange.gather.limit)
    × (l.gather.limit ≡ l.fn.gather.limit)
    × ((c : Command) (first : card.State) → may_bring c.le ≤ 256
    → HasCome card.Does c first (card.standing l.fn.end.card) l.fn.exchange
    → HasCome card.Does c first (card.standing l.end.card) l.exchange)

abbrev pub decreases-talk : goal.decreases-talk
decreases-talk g l = to_go l.exchange
