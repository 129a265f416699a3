use Rattle.std.proofs.Common.{List, sym, subst, ap, ◌∙◌, ◌≡◌, take, drop, [], ◌-◌}
use Rattle.t0_core.specs.declared.plan.Step.{Step}
use Rattle.t0_core.specs.declared.service.Service.{Service}
use Rattle.t0_core.specs.declared.direction.Direction.{Direction}
use Rattle.t0_core.specs.Dialogue.{foreseen}
use Rattle.t0_core.specs.Plan.{segments_of}
use Rattle.t0_core.specs.Front.{In_body}
use Rattle.t0_core.specs.CardSide.{Serving, whole_of}
use Rattle.t0_core.specs.CardView.{IsNext, GivesStatus}
use Rattle.t0_core.proofs.CardLemmas.{sends_data, begins_segment, ends_service, while_standing}
use Rattle.t0_core.proofs.service.serve.Goals as goal

pub returns-then-service-clause-advances : goal.returns-then-service-clause-advances
returns-then-service-clause-advances g c = λ cut plan b steps served.
    let card = g.C.TpduCard in
    sends_data card.Does (card.standing c.args.card.now) (card.prepared c.args.card.now) cut plan
    c.args.service.now c.one_moved.new.self
    (take c.args.service.now.moved c.args.came.now)
    (take c.one_moved.new.self.moved c.args.came.now) c.byte-byte.result b
    c.one_moved.ensures c.if-service.true c.requires.due c.byte-byte.ensures served

pub returns-in-Some-clause-advances : goal.returns-in-Some-clause-advances
returns-in-Some-clause-advances g c = λ cut plan b steps served.
    let card = g.C.TpduCard in
    let next = c.in-Some.ensures in
    let Next : List Step → Type 0 = λ st. IsNext c.args.service.now st next.0 c.next.new.self in
    begins_segment card.Does (card.standing c.args.card.now) (card.prepared c.args.card.now) cut
    plan c.args.service.now c.next.new.self
    (take c.args.service.now.moved c.args.came.now) (take c.next.new.self.moved c.args.came.now)
    next.0 c.in-Some.byte b
    c.if-service.false (ap (λ n. take n c.args.came.now) next.2.same.3) next.1
    (subst Next (c.steps.ensures ∙ sym steps) next.2) served

pub returns-in-None-clause-advances : goal.returns-in-None-clause-advances
returns-in-None-clause-advances g c = λ cut plan b steps served.
    let card = g.C.TpduCard in
    let s = c.args.service.now in
    let None : List Step → Type 0 =
    λ st. segments_of (drop s.done st) (whole_of s - s.until) ≡ [] in
    let Answers : Service → Type 0 =
    λ at. GivesStatus card.Does (card.standing c.args.card.now) (card.prepared c.args.card.now)
    at.direction (take at.p3 c.args.came.now) c.conclude-status.result
    (card.prepared c.conclude-status.new.card) in
    rw c.sw1.ensures.value
    (while_standing card.Does cut plan (Serving s (take s.moved c.args.came.now)) (In_body b)
    c.conclude-status.result.0 _ _ _ _ c.conclude-status.ensures.stands
    (ends_service card.Does (card.standing c.args.card.now) (card.prepared c.args.card.now)
    (card.prepared c.conclude-status.new.card) cut plan s
    (take s.moved c.args.came.now) (take s.p3 c.args.came.now) c.conclude-status.result b
    c.if-service.false
    (λ moved way. ap (λ n. take n c.args.came.now)
    (moved ∙ ap (λ (d : Direction). foreseen d s.p3) way))
    (subst None (c.steps.ensures ∙ sym steps) c.in-None.ensures.1) c.sw1.ensures.status
    (subst Answers c.in-None.ensures.0 c.conclude-status.ensures.answer) served))
