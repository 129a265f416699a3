use Rattle.std.proofs.Common.{[], refl}
use Rattle.card_terminal.specs.RunLaws.{no_replies, one_more_reply, next_item}
use Rattle.apdu_terminal.proofs.TalkLemmas.{HaveCome, one_more_comes, steps_so_far, still_at}
use Rattle.apdu_terminal.proofs.operations.run.Goals as goal

pub loop-op-init : goal.loop-op-init
loop-op-init g c =
    let card = g.C.TpduCard in
    let from = card.standing c.args.end.now.card in
    record {
      rests = c.requires.rests;
      have = no_replies (λ done replies. HaveCome card.Does from from done replies) c.args.ops.now
          c.args.out.now.given ([], tt, refl);
    }

pub returns-in_err-carry_out-clause-one_step : goal.returns-in_err-carry_out-clause-one_step
returns-in_err-carry_out-clause-one_step g c =
    let card = g.C.TpduCard in
    let m = g.met.C.DataCard.means in
    (steps_so_far card.Does card.after_reset m.0 _ _ _ _ c.args.ops.now _ c.loop-op.op-index _ m.2
    (m.1 c.args.end.now.card) (m.1 c.carry_out.new.end.card) c.requires.idle
    (still_at card _ _ _ _ _ _ _ _ c.loop-op.invariant.have c.in_err-carry_out.ensures.memory.0
    c.in_err-carry_out.ensures.memory.1)).0

pub returns-in_err-carry_out-clause-idle : goal.returns-in_err-carry_out-clause-idle
returns-in_err-carry_out-clause-idle g c =
    let card = g.C.TpduCard in
    let m = g.met.C.DataCard.means in
    (steps_so_far card.Does card.after_reset m.0 _ _ _ _ c.args.ops.now _ c.loop-op.op-index _ m.2
    (m.1 c.args.end.now.card) (m.1 c.carry_out.new.end.card) c.requires.idle
    (still_at card _ _ _ _ _ _ _ _ c.loop-op.invariant.have c.in_err-carry_out.ensures.memory.0
    c.in_err-carry_out.ensures.memory.1)).1

pub loop-op-preserved : goal.loop-op-preserved
loop-op-preserved g c =
    let card = g.C.TpduCard in
    let (answer, given_is, talk) = c.in_ok-carry_out.ensures.talk in
    record {
      rests = c.carry_out.ensures.rests;
      have = one_more_reply _ _ c.args.ops.now _ c.loop-op.op-index _ _ _ answer
          c.loop-op.invariant.have c.loop-op-test.true
          (next_item c.args.ops.now c.loop-op.op-index _ c.loop-op-test.true c.op-item.is) given_is
          (λ done replies come. one_more_comes card.Does _ _ _ done replies _ answer come talk);
    }

pub returns-clause-one_step : goal.returns-clause-one_step
returns-clause-one_step g c =
    let card = g.C.TpduCard in
    let m = g.met.C.DataCard.means in
    (steps_so_far card.Does card.after_reset m.0 _ _ _ _ c.args.ops.now _ c.loop-op.op-index _ m.2
    (m.1 c.args.end.now.card) (m.1 c.loop-op.end.card) c.requires.idle
    c.loop-op.invariant.have).0

pub returns-clause-idle : goal.returns-clause-idle
returns-clause-idle g c =
    let card = g.C.TpduCard in
    let m = g.met.C.DataCard.means in
    (steps_so_far card.Does card.after_reset m.0 _ _ _ _ c.args.ops.now _ c.loop-op.op-index _ m.2
    (m.1 c.args.end.now.card) (m.1 c.loop-op.end.card) c.requires.idle
    c.loop-op.invariant.have).1
