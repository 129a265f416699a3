use Rattle.std.proofs.Common.{sym, subst, ◌∙◌, false, ◌≡◌}
use Rattle.t0_core.specs.Plan.{plan_kept}
use Rattle.t0_core.specs.CardView.{stage_of}
use Rattle.t0_core.specs.CardSide.{Stage, listens}
use Rattle.t0_core.proofs.HistoryLemmas.{HandsOut, turn_advances, turn_leads_on, turn_leads_under_on}
use Rattle.t0_core.proofs.card_end.CardEnd.turn.Goals as goal

pub returns-clause-advances : goal.returns-clause-advances
returns-clause-advances g c =
    let card = g.C.TpduCard in
    let out = c.hand_out-byte in
    let old = c.self.inside.card in
    let at = stage_of c.self.inside.phase c.self.inside.came in
    let Hands : Stage → Type 0 =
    λ s. HandsOut card.Does (plan_kept out.new.plans) (card.standing old)
    (card.standing out.new.card) (card.prepared old) (card.prepared out.new.card) at s
    out.result in
    turn_advances card.Does card.standing card.prepared (plan_kept out.new.plans) out.result
    (card.standing out.new.card) (card.prepared out.new.card)
    (stage_of out.new.phase c.forget_data.new.came) _ _
    c.self.view_is (subst Hands (sym c.forget_data.ensures.stage) out.ensures.advances)

pub returns-clause-led : goal.returns-clause-led
returns-clause-led g c =
    let card = g.C.TpduCard in
    let out = c.hand_out-byte in
    let old = c.self.inside.card in
    let at = stage_of c.self.inside.phase c.self.inside.came in
    let Hands : Stage → Type 0 =
    λ s. HandsOut card.Does (plan_kept out.new.plans) (card.standing old)
    (card.standing out.new.card) (card.prepared old) (card.prepared out.new.card) at s
    out.result in
    let silent : listens at ≡ false = sym (c.is_listening.ensures c.self.inside.came)
    ∙ c.if-is_listening.false in
    turn_leads_on card.Does card.after_reset card.standing card.prepared (plan_kept out.new.plans)
    out.result
    (card.standing out.new.card) (card.prepared out.new.card)
    (stage_of out.new.phase c.forget_data.new.came) _ _
    c.self.view_is out.ensures.cut silent
    (subst Hands (sym c.forget_data.ensures.stage) out.ensures.advances)

pub returns-clause-led_under : goal.returns-clause-led_under
returns-clause-led_under g c =
    let card = g.C.TpduCard in
    let out = c.hand_out-byte in
    let old = c.self.inside.card in
    let at = stage_of c.self.inside.phase c.self.inside.came in
    let Hands : Stage → Type 0 =
    λ s. HandsOut card.Does (plan_kept out.new.plans) (card.standing old)
    (card.standing out.new.card) (card.prepared old) (card.prepared out.new.card) at s
    out.result in
    let silent : listens at ≡ false = sym (c.is_listening.ensures c.self.inside.came)
    ∙ c.if-is_listening.false in
    turn_leads_under_on card.Does card.standing card.prepared c.args.plans.now out.new.plans
    out.result
    (card.standing out.new.card) (card.prepared out.new.card)
    (stage_of out.new.phase c.forget_data.new.came) _ _
    c.self.view_is out.ensures.cut silent out.ensures.plan
    (subst Hands (sym c.forget_data.ensures.stage) out.ensures.advances)

pub invariant_of-self : goal.invariant_of-self
invariant_of-self g c = (
  c.hand_out-byte.ensures.fits,
  c.forget_data.ensures.room ∙ c.self.invariant.1,
  c.forget_data.ensures.gone,
)
