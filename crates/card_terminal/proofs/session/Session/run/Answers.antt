use Rattle.std.proofs.Common.{refl, ap}
use Rattle.card_terminal.specs.RunLaws.{next_item}
use Rattle.card_terminal.proofs.RunLemmas.{none_answered, still_answered, same_point, one_more_answered, have_come}
use Rattle.card_terminal.proofs.session.Session.run.Goals as goal

pub loop-op-init : goal.loop-op-init
loop-op-init g c = record {
  have = none_answered g.C.TpduCard.Does _ _ c.args.ops.now c.args.out.now.given;
  idle = c.requires;
}

pub returns-in_err-make_room-clause-one_step : goal.returns-in_err-make_room-clause-one_step
returns-in_err-make_room-clause-one_step g c =
    (have_come g.C.TpduCard.Does _ _ c.args.ops.now _ c.loop-op.op-index _ _ _
    (still_answered _ _ _ _ _ _ _ _ _ _ _ _ c.loop-op.invariant.have c.make_room.ensures.stays
    refl refl)).1

pub returns-in_err-make_room-clause-talk : goal.returns-in_err-make_room-clause-talk
returns-in_err-make_room-clause-talk g c =
    (have_come g.C.TpduCard.Does _ _ c.args.ops.now _ c.loop-op.op-index _ _ _
    (still_answered _ _ _ _ _ _ _ _ _ _ _ _ c.loop-op.invariant.have c.make_room.ensures.stays
    refl refl)).0

pub returns-in_err-answer-clause-one_step : goal.returns-in_err-answer-clause-one_step
returns-in_err-answer-clause-one_step g c =
    let same = c.in_err-answer.ensures.memory in
    (have_come g.C.TpduCard.Does _ _ c.args.ops.now _ c.loop-op.op-index _ _ _
    (still_answered _ _ _ _ _ _ _ _ _ _ _ _ c.loop-op.invariant.have c.make_room.ensures.stays
    (same_point _ _ _ _ _ _ (ap g.C.TpduCard.standing same.0) same.1 same.2)
    (ap g.C.DataCard.state same.0))).1

pub returns-in_err-answer-clause-talk : goal.returns-in_err-answer-clause-talk
returns-in_err-answer-clause-talk g c =
    let same = c.in_err-answer.ensures.memory in
    (have_come g.C.TpduCard.Does _ _ c.args.ops.now _ c.loop-op.op-index _ _ _
    (still_answered _ _ _ _ _ _ _ _ _ _ _ _ c.loop-op.invariant.have c.make_room.ensures.stays
    (same_point _ _ _ _ _ _ (ap g.C.TpduCard.standing same.0) same.1 same.2)
    (ap g.C.DataCard.state same.0))).0

pub loop-op-preserved : goal.loop-op-preserved
loop-op-preserved g c = record {
  have = one_more_answered g.C.TpduCard.Does _ _ _ _ _ _ _ _ c.loop-op.op-index
      c.make_room.new.self.given _ _ c.in_ok-answer.answer
      (still_answered _ _ _ _ _ _ _ _ _ _ _ _ c.loop-op.invariant.have
      c.make_room.ensures.stays refl refl) c.loop-op-test.true
      (next_item c.args.ops.now c.loop-op.op-index _ c.loop-op-test.true c.op-item.is)
      c.append.ensures c.in_ok-answer.ensures.talk c.in_ok-answer.ensures.one_step;
  idle = c.operate.ensures.idle;
}

pub returns-clause-one_step : goal.returns-clause-one_step
returns-clause-one_step g c =
    (have_come g.C.TpduCard.Does _ _ c.args.ops.now _ c.loop-op.op-index _ _ _
    c.loop-op.invariant.have).1
