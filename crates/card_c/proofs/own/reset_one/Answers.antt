use Rattle.std.proofs.Common.{◌∙◌, ◌++◌, ◌∷◌, [], ap, refl, subst, sym}
use Rattle.t0_core.specs.CardHistory.{Leads, LeadsUnder}
use Rattle.t0_core.specs.History.{Reset}
use Rattle.command_card.specs.Wanted.{forgotten_by}
use Rattle.command_card.specs.WantedLaws.{forgets_once}
use Rattle.card_c.specs.OwnCalls.{OwnLed, own_card}
use Rattle.card_c.proofs.OwnLemmas.{same_end}
use Rattle.card_c.proofs.own.reset_one.Goals as goal

pub returns : goal.returns
returns c =
    let mid = c.reset.new.self in
    let was = c.drop_whole.ensures.end in
    let is = c.forget.ensures.done in
    let (again, prepared) = forgets_once mid.card in
    let back = c.forget.ensures.stands ∙ c.reset.ensures.card
    ∙ ap (λ e. own_card.after_reset (own_card.standing e.card)) was in
    let led = same_end mid c.forget.new.end c.forget.ensures.stands
    (ap own_card.prepared is ∙ prepared) c.forget.ensures.stage in (
      refl,
      c.drop_whole.ensures.plans,
      c.drop_whole.ensures.dropped.0,
      c.drop_whole.ensures.dropped.1,
      ap (λ s. s.app.given) back,
      is ∙ sym again ∙ ap forgotten_by (sym is),
      back,
      c.forget.ensures.stage ∙ c.reset.ensures.stage,
      λ first events before. led
          (λ s p t. Leads own_card.Does own_card.after_reset first (events ++ Reset ∷ []) s p t)
          (c.reset.ensures.led first events
          (subst (λ e. OwnLed first events e) (sym was) before)),
      led (λ s p t. Leads own_card.Does own_card.after_reset s [] s p t) c.reset.ensures.anew,
      led (λ s p t. LeadsUnder own_card.Does s [] [] s p t) c.reset.ensures.led_under,
    )
