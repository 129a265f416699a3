use Rattle.t0_core.proofs.HistoryLemmas.{leads_fresh, leads_under_fresh, reset_leads_on}
use Rattle.t0_core.proofs.card_end.CardEnd.reset.Goals as goal

pub returns-clause-led : goal.returns-clause-led
returns-clause-led g c =
    let card = g.C.TpduCard in
    reset_leads_on card.Does card.after_reset card.standing card.prepared _ _ _ c.self.view_is
    c.reset.ensures.stands

pub returns-clause-anew : goal.returns-clause-anew
returns-clause-anew g c = leads_fresh g.C.TpduCard.Does g.C.TpduCard.after_reset _ _

pub returns-clause-led_under : goal.returns-clause-led_under
returns-clause-led_under g c = leads_under_fresh g.C.TpduCard.Does _ _
