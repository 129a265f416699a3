use Rattle.std.proofs.Common.{sym, subst, ap}
use Rattle.t0_core.specs.HostMark.{with_data}
use Rattle.exchange_core.specs.OwnedExchange.{ExchangeMarkOf, of_parts, over_data, IsSound}
use Rattle.exchange_core.proofs.OwnedLemmas.{turned}
use Rattle.exchange_core.proofs.TurnLemmas.{over_by_turn}
use Rattle.exchange_core.proofs.exchange.exchange_mark.ExchangeMark.next.Goals as goal

pub next-requires : goal.next-requires
next-requires g c = (subst IsSound
    (sym (ap (λ (m : ExchangeMarkOf). over_data m c.args.content.now) c.self.view_is))
    c.requires).0

pub returns-clause-turn : goal.returns-clause-turn
returns-clause-turn g c =
    let content = c.args.content.now in
    let i = c.self.inside in
    let seen = ap (λ (m : ExchangeMarkOf). over_data m content) c.self.view_is in
    let sound = subst IsSound (sym seen) c.requires in
    let turn = c.next.ensures in
    rw (sym seen) (turned
    (of_parts (with_data i.end content) i.gather i.attempt i.wanted i.stalled) c.next.result
    (with_data c.next.new.self content) sound.1 c.if-self.false turn.turn turn.after turn.range.0
    turn.stays turn.goes_on)

pub returns-clause-over : goal.returns-clause-over
returns-clause-over g c = λ status done.
    let content = c.args.content.now in
    let i = c.self.inside in
    over_by_turn (of_parts (with_data i.end content) i.gather i.attempt i.wanted i.stalled) _
    (with_data c.next.new.self content) status
    (ap (λ (m : ExchangeMarkOf). over_data m content) c.self.view_is) c.if-self.false
    c.next.ensures.after done
