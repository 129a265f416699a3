use Rattle.std.proofs.Common.{sym, subst, ap, ◌∙◌}
use Rattle.t0_core.specs.Room.{Room}
use Rattle.exchange_core.specs.ExchangeSide.{ExchangeOf}
use Rattle.exchange_core.specs.OwnedExchange.{ExchangeMarkOf, of_parts, over_data, IsSound}
use Rattle.exchange_core.proofs.OwnedLemmas.{same_parts, end_has_only}
use Rattle.exchange_core.proofs.exchange.exchange_mark.ExchangeMark.answered.Goals as goal

pub returns-clause-sound : goal.returns-clause-sound
returns-clause-sound g c =
    let content = c.args.content.now in
    let only = c.answered-taken.ensures.data content (end_has_only _ _ _ c.at.ensures) in
    let again = ap (λ (m : ExchangeMarkOf). over_data m content) c.drop.view_is
    ∙ c.of.ensures.again content only in
    subst IsSound (sym again) c.of.ensures.sound

pub returns-clause-answering : goal.returns-clause-answering
returns-clause-answering g c =
    let content = c.args.content.now in
    let i = c.self.inside in
    let At : Room → ExchangeOf =
    λ room. of_parts c.at.result room i.attempt i.wanted i.stalled in
    let begun = ap At c.replace.ensures.value
    ∙ same_parts i.end i.gather i.attempt i.wanted i.stalled content _ _ c.at.ensures
    (ap (λ (m : ExchangeMarkOf). over_data m content) c.self.view_is) in
    let only = c.answered-taken.ensures.data content (end_has_only _ _ _ c.at.ensures) in
    rw (
      ap (λ (m : ExchangeMarkOf). over_data m content) c.drop.view_is
          ∙ c.of.ensures.again content only,
      sym begun,
    ) c.answered-taken.ensures.answering
