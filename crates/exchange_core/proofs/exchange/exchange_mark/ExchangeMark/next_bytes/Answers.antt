use Rattle.std.proofs.Common.{sym, subst, ap, ◌∙◌}
use Rattle.t0_core.specs.HostSide.{Hosting}
use Rattle.exchange_core.specs.ExchangeSide.{ExchangeOf}
use Rattle.exchange_core.specs.OwnedExchange.{ExchangeMarkOf, over_data, of_parts, IsSound}
use Rattle.exchange_core.proofs.exchange.exchange_mark.ExchangeMark.next_bytes.Goals as goal

pub handed_in-requires : goal.handed_in-requires
handed_in-requires g c = (subst IsSound
    (sym (ap (λ (m : ExchangeMarkOf). over_data m c.args.content.now) c.self.view_is))
    c.requires).0

pub returns-clause-handed : goal.returns-clause-handed
returns-clause-handed g c =
    let i = c.self.inside in
    let seen = ap (λ (m : ExchangeMarkOf). over_data m c.args.content.now) c.self.view_is in
    let sound = subst IsSound (sym seen) c.requires in
    rw (sym seen) (c.handed_in.ensures.handed i.gather i.attempt i.wanted sound.1)

pub returns-clause-over : goal.returns-clause-over
returns-clause-over g c = λ status done.
    let i = c.self.inside in
    let seen = ap (λ (m : ExchangeMarkOf). over_data m c.args.content.now) c.self.view_is in
    let At : Hosting → ExchangeOf = λ h. of_parts h i.gather i.attempt i.wanted i.stalled in
    ap At (c.handed_in.ensures.over i.gather i.attempt i.wanted status done) ∙ seen

pub returns-clause-sound : goal.returns-clause-sound
returns-clause-sound g c =
    let i = c.self.inside in
    let sound = subst IsSound
    (sym (ap (λ (m : ExchangeMarkOf). over_data m c.args.content.now) c.self.view_is))
    c.requires in
    (c.handed_in.ensures.range, c.handed_in.ensures.kept i.gather i.attempt i.wanted sound.1)
