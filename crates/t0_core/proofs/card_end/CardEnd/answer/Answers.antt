use Rattle.std.proofs.Common.{◌<◌, sym, subst}
use Rattle.std.proofs.lemmas.Result.{err_from_is_err_and}
use Rattle.t0_core.specs.Plan.{Cursor, plan_kept}
use Rattle.t0_core.specs.CardSide.{still_to_go}
use Rattle.t0_core.specs.TpduBytes.{asked_of}
use Rattle.t0_core.specs.Answering.{IsAnswering, Ends, Sticks}
use Rattle.t0_core.proofs.TpduLemmas.{at_some, at_none}
use Rattle.t0_core.proofs.card_end.CardEnd.answer.Goals as goal

pub returns-in_err-status-clause-answers : goal.returns-in_err-status-clause-answers
returns-in_err-status-clause-answers g c = λ first before on.
    let card = g.C.TpduCard in
    let asked = asked_of c.args.tpdu.now in
    let P : Cursor → Type 0 =
    λ k. IsAnswering card first (plan_kept k) asked before c.talk.gather.bytes c.talk.self
    → Sticks card first (plan_kept k) asked before c.pass.new.gather c.pass.new.self
    c.in_err-status.field-0.0 in
    let p = err_from_is_err_and c.from_residual.result c.from_residual.ensures.1 in
    rw (p.1, p.2) (subst P c.talk.invariant.0 (c.in_err-status.ensures.passes first before)
    (c.talk.invariant.1 first before on))

pub returns-in-Some-clause-answers : goal.returns-in-Some-clause-answers
returns-in-Some-clause-answers g c = λ first before on.
    let card = g.C.TpduCard in
    let asked = asked_of c.args.tpdu.now in
    let P : Cursor → Type 0 =
    λ k. IsAnswering card first (plan_kept k) asked before c.talk.gather.bytes c.talk.self
    → Ends card first (plan_kept k) asked before c.pass.new.gather c.pass.new.self
    c.in-Some.status in
    subst P c.talk.invariant.0 (λ was. at_some c.in_ok-status.field-0 _ _ c.in-Some.status
    c.in-Some.is (c.in_ok-status.ensures.passes first before was))
    (c.talk.invariant.1 first before on)

pub talk-smaller : goal.talk-smaller
talk-smaller g c =
    let card = g.C.TpduCard in
    let (first, before, on) = c.requires.answering in
    let asked = asked_of c.args.tpdu.now in
    let Under : Cursor → Type 0 =
    λ k. IsAnswering card first (plan_kept k) asked before c.talk.gather.bytes c.talk.self in
    let Less : Cursor → Type 0 =
    λ k. still_to_go c.pass.new.self.stage (plan_kept k)
    < still_to_go c.talk.self.stage (plan_kept c.talk.plans) in
    let was = subst Under (sym c.talk.invariant.0) (c.talk.invariant.1 first before on) in
    subst Less (sym c.pass.ensures.plan)
    (at_none c.in_ok-status.field-0 _ _ c.in_default.is
    (c.in_ok-status.ensures.passes first before was)).1
