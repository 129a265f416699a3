use Rattle.std.proofs.Common.{sym, subst, ap}
use Rattle.t0_core.specs.declared.host_mark.HostMark.{HostMark}
use Rattle.t0_core.specs.HostMark.{with_data}
use Rattle.exchange_core.specs.OwnedExchange.{ExchangeMarkOf, over_data, IsSound}
use Rattle.exchange_core.proofs.TakingLemmas.{data_taken, kept_either}
use Rattle.exchange_core.proofs.TurnLemmas.{still_going}
use Rattle.exchange_core.proofs.exchange.exchange_mark.ExchangeMark.take_data.Goals as goal

pub take_data-requires : goal.take_data-requires
take_data-requires g c = (subst IsSound
    (sym (ap (λ (m : ExchangeMarkOf). over_data m c.args.content.now) c.self.view_is))
    c.requires).0

pub returns-clause-taken : goal.returns-clause-taken
returns-clause-taken g c = λ does.
    let i = c.self.inside in
    let seen = ap (λ (m : ExchangeMarkOf). over_data m c.args.content.now) c.self.view_is in
    let sound = subst IsSound (sym seen) c.requires in
    rw (sym seen) (data_taken i.attempt i.wanted i.stalled _ _ c.args.byte sound.1
    (c.take_data.ensures.taken does))

pub returns-clause-continues : goal.returns-clause-continues
returns-clause-continues g c = λ does status done.
    still_going c.self.inside.stalled _ status (c.take_data.ensures.listens does) done

pub returns-clause-sound : goal.returns-clause-sound
returns-clause-sound g c =
    let content = c.args.content.now in
    let i = c.self.inside in
    let one = c.take_data in
    let sound = subst IsSound
    (sym (ap (λ (m : ExchangeMarkOf). over_data m content) c.self.view_is)) c.requires in (
      one.ensures.range,
      kept_either i.attempt i.wanted i.stalled one.result
          (record { host = with_data i.end content; room = i.gather })
          (record { host = with_data one.new.self content; room = one.new.gather }) c.args.byte
          sound.1 one.ensures.taken
          (λ none. (
            ap (λ (m : HostMark). with_data m content) (one.ensures.stays none).0,
            (one.ensures.stays none).1,
          )),
    )
