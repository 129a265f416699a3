use Rattle.std.proofs.Common.{refl, sym, subst, ap, ◌∙◌, Some}
use Rattle.t0_core.specs.declared.host_end.HostTurn.TheVariants.{Sends}
use Rattle.t0_core.specs.HostSide.{Hosting}
use Rattle.t0_core.specs.HostMark.{HasOnly}
use Rattle.exchange_core.specs.OwnedExchange.{ExchangeMarkOf, over_data, of_parts, IsSound}
use Rattle.exchange_core.proofs.ExchangeLemmas.{sending_is_going}
use Rattle.exchange_core.proofs.OwnedLemmas.{same_parts, same_sent, end_has_only, turned}
use Rattle.exchange_core.proofs.exchange.exchange_mark.ExchangeMark.next_data.Goals as goal

pub returns-clause-turn : goal.returns-clause-turn
returns-clause-turn g c = λ byte is.
    let content = c.args.content.now in
    let i = c.self.inside in
    let ex = of_parts c.at-end.result i.gather i.attempt i.wanted i.stalled in
    let begun = same_parts i.end i.gather i.attempt i.wanted i.stalled content _ _ c.at-end.ensures
    (ap (λ (m : ExchangeMarkOf). over_data m content) c.self.view_is) in
    let sound = subst IsSound (sym begun) c.requires in
    let sends = c.in-Some.ensures.sends byte is in
    let step = turned ex (Sends byte) c.next_data.new.self sound.1
    (sending_is_going ex byte sound.1 sends.0) (sym sends.0) sends.1 c.in-Some.ensures.keeps
    (λ none. absurd (none byte refl))
    (λ front b stands same. c.in-Some.ensures.goes_on front b stands
    (is ∙ ap Some (same_sent byte b same))) in
    let only = subst (λ (h : Hosting). HasOnly content h) (sym sends.1)
    (end_has_only _ _ _ c.at-end.ensures) in
    rw (c.mark-self-inside.ensures.again content only, sym begun) step
