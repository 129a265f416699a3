use Rattle.std.proofs.Common.{refl, subst}
use Rattle.t0_core.specs.Plan.{Cursor, plan_kept}
use Rattle.t0_core.specs.CardSide.{Advances, takes_plan}
use Rattle.t0_core.proofs.TpduLemmas.{cursor_stays, takes_none}
use Rattle.t0_core.proofs.card_end.CardEnd.hand_on.Goals as goal

pub returns-clause-advances : goal.returns-clause-advances
returns-clause-advances g c = λ cut at stands.
    let card = g.C.TpduCard in
    let old = c.args.self.now in
    let new = c.turn.new.self in
    let byte = c.in-Sends.byte in
    let same = cursor_stays (takes_plan old.stage) c.turn.new.plans _ c.args.plans.now
    c.requires.begun c.turn.ensures.plan in
    let P : Cursor → Type 0 =
    λ k. Advances card.Does cut (plan_kept k) old.stage at byte (card.standing old.card)
    (card.standing new.card) (card.prepared new.card) new.stage in
    subst P same (c.in-Sends.ensures.advances byte cut at refl
    (λ takes. absurd (takes_none (takes_plan old.stage) c.requires.begun takes)) stands)
