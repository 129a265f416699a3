use Rattle.std.proofs.Common.{sym, ap, subst, ◌∙◌}
use Rattle.t0_core.specs.Dialogue.{Dialogue}
use Rattle.t0_core.specs.Plan.{Cursor, plan_kept}
use Rattle.t0_core.specs.TpduBytes.{asked_of}
use Rattle.t0_core.specs.CardTpdu.{IsCarriedOut, IsStuck}
use Rattle.t0_core.proofs.TpduLemmas.{leads_on_by, leads_to_stuck}
use Rattle.t0_core.proofs.card_end.CardEnd.carry_out.Goals as goal

pub returns-in-Ok : goal.returns-in-Ok
returns-in-Ok g c =
    let card = g.C.TpduCard in
    let asked = asked_of c.args.tpdu.now in
    let ends = c.in-Ok.ensures.answers _ _ c.begin.ensures.answering in
    let From : card.State → Type 0 =
    λ s. (d : Dialogue) × IsCarriedOut card.Does s (plan_kept c.begin.new.plans) asked
    c.args.gather.now.bytes c.answer.new.gather.bytes (card.standing c.answer.new.self.card)
    c.in-Ok.status d in
    let Under : Cursor → Type 0 =
    λ k. (d : Dialogue) × IsCarriedOut card.Does (card.standing c.args.self.now.card) (plan_kept k)
    asked c.args.gather.now.bytes c.answer.new.gather.bytes (card.standing c.answer.new.self.card)
    c.in-Ok.status d in
    let (d, out) = subst Under (sym c.answer.ensures.plan)
    (subst From (ap card.standing c.open.ensures.card) ends.1) in (
      c.answer.ensures.plan ∙ c.begin.ensures.plan,
      c.answer.ensures.room,
      ends.0,
      (
        d,
        out,
        leads_on_by card (plan_kept c.answer.new.plans) asked c.args.gather.now.bytes
            c.answer.new.gather.bytes c.in-Ok.status c.args.self.now c.answer.new.self d
            c.requires.rests ends.0 out,
      ),
    )

pub returns-in-Err : goal.returns-in-Err
returns-in-Err g c =
    let card = g.C.TpduCard in
    let asked = asked_of c.args.tpdu.now in
    let end = c.answer.new.self in
    let sticks = c.in-Err.ensures.answers _ _ c.begin.ensures.answering in
    let b = sticks.0 in
    let From : card.State → Type 0 =
    λ s. IsStuck card s (plan_kept c.begin.new.plans) asked c.args.gather.now.bytes
    c.answer.new.gather b end in
    let Under : Cursor → Type 0 =
    λ k. IsStuck card (card.standing c.args.self.now.card) (plan_kept k) asked
    c.args.gather.now.bytes c.answer.new.gather b end in
    let stands = subst From (ap card.standing c.open.ensures.card) sticks.1 in
    let led = leads_to_stuck card (plan_kept c.begin.new.plans) asked c.args.gather.now.bytes
    c.answer.new.gather c.args.self.now end b c.requires.rests c.begin.ensures.cut stands in (
      c.answer.ensures.plan ∙ c.begin.ensures.plan,
      c.answer.ensures.room,
      c.reset.ensures.stage,
      (
        b,
        end,
        subst Under (sym c.answer.ensures.plan) stands,
        sticks.2,
        c.reset.ensures.card ∙ ap card.after_reset stands.stays,
        (
          (λ first events was. c.reset.ensures.led first _ (led first events was)),
          c.reset.ensures.anew,
          c.reset.ensures.led_under,
        ),
      ),
    )
