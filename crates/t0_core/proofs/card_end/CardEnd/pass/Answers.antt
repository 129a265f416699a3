use Rattle.std.proofs.Common.{◌≡◌, ◌<◌, ◌≤◌, ◌-◌, List, ℕ, arith, sym, ap, subst, ◌∙◌, inl, inr, length, take, drop}
use Rattle.std.proofs.lemmas.List.{length-take-le, length-drop, take-take}
use Rattle.t0_core.specs.Buffers.{Steps}
use Rattle.t0_core.specs.CardSending.{AreDue}
use Rattle.t0_core.specs.CardTaking.{IsTaken}
use Rattle.t0_core.proofs.CardSendingLemmas.{some_due}
use Rattle.std.proofs.lemmas.Bool.{ltb-true, ltb-false}
use Rattle.t0_core.specs.Plan.{plan_kept}
use Rattle.t0_core.specs.Room.{Room}
use Rattle.t0_core.specs.TpduBytes.{asked_of}
use Rattle.t0_core.proofs.TpduLemmas.{GoesFurther, passes_own_run, some_own, passes_run, some_taken, passes_procedure, passes_second, second_is, wants_more}
use Rattle.t0_core.proofs.card_end.CardEnd.pass.Goals as goal

pub returns-in-Procedure-clause-passes : goal.returns-in-Procedure-clause-passes
returns-in-Procedure-clause-passes g c = λ first before on.
    passes_procedure g.C.TpduCard first (plan_kept c.args.plans.now)
    (asked_of c.args.tpdu.now) before c.args.gather.now.bytes
    c.args.self.now c.hand_on.new.self c.hand_on.result on (sym c.in-Procedure.ensures)
    c.hand_on.ensures.falls c.hand_on.ensures.keeps c.hand_on.ensures.advances

pub returns-in-Some-data_due-clause-passes : goal.returns-in-Some-data_due-clause-passes
returns-in-Some-data_due-clause-passes g c = λ first before on.
    let card = g.C.TpduCard in
    let plan = plan_kept c.args.plans.now in
    let asked = asked_of c.args.tpdu.now in
    let old = c.args.self.now in
    let new = c.skip_data.new.self in
    let run = c.extend_up_to-count in
    let all : List ℕ = c.bytes.result.now in
    let due = subst (λ bs. AreDue card old bs) (sym c.bytes.ensures) c.in-Some-data_due.ensures in
    let some = some_taken run.result (length all) _ (length c.args.gather.now.bytes)
    c.args.gather.now.limit (some_due card old all due) (omega (arith, c.if-place-from.false))
    (sym c.is_full.ensures.full ∙ c.if-is_full.false) run.ensures.all in
    let len = length-take-le run.result all run.ensures.fits in
    let P : List ℕ → Type 0 = λ got. GoesFurther card first plan asked before got old new in
    subst P (sym (ap (λ (r : Room). r.bytes) run.ensures.gathered))
    (passes_run card first plan asked before c.args.gather.now.bytes (take run.result all) old new
    c.in-OfCard.place on (sym c.in-OfCard.ensures) (omega (arith, some, len))
    (omega (arith, run.ensures.within, len, c.if-place-from.false))
    (c.skip_data.ensures.some all due run.ensures.fits))

pub returns-in-Some-clause-passes : goal.returns-in-Some-clause-passes
returns-in-Some-clause-passes g c = λ first before on.
    let card = g.C.TpduCard in
    let run = c.take_bytes in
    let content : List ℕ = c.args.tpdu.now.content.now in
    let place = c.in-OfTerminal.place in
    let left = length content - place in
    let bytes : List ℕ = take left (drop place content) in
    let is = sym c.in-OfTerminal.ensures in
    let lt : place < length content = ltb-true place (length content)
    (sym c.in-Some.ensures.lookup.0) in
    let len : length bytes ≡ left = length-take-le left (drop place content)
    (omega (arith, length-drop place content)) in
    let within : run.result ≤ length bytes = elim run.ensures.all [
      | inl all ↦ omega (arith, all)
      | inr few ↦ omega (arith, few.0)
    ] in
    passes_own_run card first (plan_kept c.args.plans.now) (asked_of c.args.tpdu.now) before
    c.args.gather.now.bytes run.result place c.args.self.now run.new.self on is
    (some_own card run.result place bytes c.args.self.now run.new.self is (omega (arith, len, lt))
    run.ensures.taken run.ensures.all) (omega (arith, within, len, lt))
    (subst (λ bs. Steps (IsTaken card) c.args.self.now bs run.new.self)
    (take-take run.result left (drop place content) (omega (arith, within, len)))
    run.ensures.taken)

pub returns-in-Second-clause-passes : goal.returns-in-Second-clause-passes
returns-in-Second-clause-passes g c = λ first before on.
    let ends = passes_second g.C.TpduCard first (plan_kept c.args.plans.now)
    (asked_of c.args.tpdu.now) before c.args.gather.now
    c.args.self.now c.hand_on-sw2.new.self c.in-Second.sw1 c.hand_on-sw2.result c.requires.cut on
    (sym c.in-Second.ensures) c.hand_on-sw2.ensures.advances in
    second_is c.new.result _ _ (c.in-Second.sw1, c.hand_on-sw2.result) _ ends.0 c.new.ensures ends.1

pub returns-in-None-clause-passes : goal.returns-in-None-clause-passes
returns-in-None-clause-passes g c = λ first before on.
    wants_more g.C.TpduCard first (plan_kept c.args.plans.now)
    (asked_of c.args.tpdu.now) before c.args.gather.now
    c.args.self.now c.in-OfTerminal.place on (sym c.in-OfTerminal.ensures)
    (ltb-false c.in-OfTerminal.place (length c.args.tpdu.now.content.now)
    (sym c.in-None.ensures.lookup.0))
