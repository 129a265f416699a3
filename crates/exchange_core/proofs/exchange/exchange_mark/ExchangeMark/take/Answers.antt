use Rattle.std.proofs.Common.{sym, subst, ap}
use Rattle.t0_core.specs.HostSide.{Hosting}
use Rattle.exchange_core.specs.OwnedExchange.{ExchangeMarkOf, over_data, of_parts, IsSound}
use Rattle.exchange_core.proofs.OwnedLemmas.{same_parts, end_has_only}
use Rattle.exchange_core.proofs.exchange.exchange_mark.ExchangeMark.take.Goals as goal

pub returns-clause-sound : goal.returns-clause-sound
returns-clause-sound g c =
    let content = c.args.content.now in
    let made = c.taken_by-taken in
    let only = made.ensures.data content (end_has_only _ _ _ c.at-end.ensures) in
    let P : Hosting → Type 0 = λ h. IsSound
    (of_parts h made.new.gather made.new.attempt c.self.inside.wanted made.new.stalled) in
    subst P (sym (c.mark-self-inside.ensures.again content only))
    (c.mark-self-inside.ensures.range, made.ensures.kept)

pub returns-clause-taking : goal.returns-clause-taking
returns-clause-taking g c =
    let content = c.args.content.now in
    let i = c.self.inside in
    let made = c.taken_by-taken in
    let begun = same_parts i.end i.gather i.attempt i.wanted i.stalled content _ _ c.at-end.ensures
    (ap (λ (m : ExchangeMarkOf). over_data m content) c.self.view_is) in
    let only = made.ensures.data content (end_has_only _ _ _ c.at-end.ensures) in
    rw (c.mark-self-inside.ensures.again content only, sym begun) made.ensures.taking
