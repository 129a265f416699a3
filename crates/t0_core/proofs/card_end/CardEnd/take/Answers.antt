use Rattle.std.proofs.Common.{sym}
use Rattle.t0_core.proofs.HistoryLemmas.{take_leads_on, take_leads_under_on, none_due}
use Rattle.t0_core.proofs.card_end.CardEnd.take.Goals as goal

pub returns-in_err-take_into-clause-goes_on : goal.returns-in_err-take_into-clause-goes_on
returns-in_err-take_into-clause-goes_on g c = λ cut front new stands goes.
    absurd (none_due g.C.TpduCard.Does g.C.TpduCard.standing g.C.TpduCard.prepared c.args.byte _ _
    c.self.view_is (sym c.in_err-take_into.ensures.listening) cut front new stands goes)

pub returns-clause-led : goal.returns-clause-led
returns-clause-led g c =
    take_leads_on g.C.TpduCard.Does g.C.TpduCard.after_reset g.C.TpduCard.standing
    g.C.TpduCard.prepared c.args.byte _ _ _ c.self.view_is
    (sym c.in_ok-take_into.ensures.listening) c.in_ok-take_into.ensures.taken

pub returns-clause-led_under : goal.returns-clause-led_under
returns-clause-led_under g c =
    take_leads_under_on g.C.TpduCard.Does g.C.TpduCard.standing g.C.TpduCard.prepared c.args.byte _
    _ _ c.self.view_is (sym c.in_ok-take_into.ensures.listening)
    c.in_ok-take_into.ensures.taken
