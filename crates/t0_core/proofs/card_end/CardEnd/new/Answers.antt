use Rattle.t0_core.proofs.HistoryLemmas.{leads_fresh, leads_under_fresh}
use Rattle.t0_core.proofs.card_end.CardEnd.new.Goals as goal

pub returns-clause-led : goal.returns-clause-led
returns-clause-led g c = leads_fresh g.C.TpduCard.Does g.C.TpduCard.after_reset _ _

pub returns-clause-led_under : goal.returns-clause-led_under
returns-clause-led_under g c = leads_under_fresh g.C.TpduCard.Does _ _
