use Rattle.std.proofs.Common.{sym}
use Rattle.exchange_core.proofs.OwnedLemmas.{turned}
use Rattle.exchange_core.proofs.TurnLemmas.{over_by_turn}
use Rattle.exchange_core.proofs.exchange.Exchange.next.Goals as goal

pub returns-clause-over : goal.returns-clause-over
returns-clause-over g c = λ status done.
    over_by_turn _ _ c.next.new.self status c.self.view_is c.if-self.false c.next.ensures.after done

pub returns-clause-turn : goal.returns-clause-turn
returns-clause-turn g c =
    rw (sym c.self.view_is) (turned _ c.next.result c.next.new.self c.self.invariant
    c.if-self.false c.next.ensures.turn c.next.ensures.after c.next.ensures.keeps
    c.next.ensures.stays c.next.ensures.goes_on)
