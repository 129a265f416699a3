use Rattle.std.proofs.Common.{◌<◌, ◌+◌, length, arith}
use Rattle.card_c.proofs.BufferLemmas.{one_handed, data_handed}
use Rattle.card_c.proofs.card_buffers.hand_out.Goals as goal

pub hand-preserved-then-count-eq0 : goal.hand-preserved-then-count-eq0
hand-preserved-then-count-eq0 c =
    let run = c.hand_run-count in
    let at = c.hand.at + run.result in
    let below : at < length run.new.bytes =
    omega (arith, c.if-count-eq0.true, c.hand-test.true, run.auto.bytes) in
    one_handed (c.args.end.now, c.args.plans.now) (run.new.end, c.hand.plans)
    (c.next_of.new.end, c.next_of.new.plans) c.args.bytes.now run.new.bytes at c.in-Some.byte below
    (omega (arith, run.auto.bytes, c.hand.auto.bytes))
    (data_handed c.hand.plans (c.args.end.now, c.args.plans.now) c.hand.end run.new.end
    c.args.bytes.now c.hand.bytes run.new.bytes c.hand.at run.result c.hand.auto.bytes
    c.hand.invariant run.ensures) c.in-Some.ensures

pub hand-preserved : goal.hand-preserved
hand-preserved c =
    let run = c.hand_run-count in
    data_handed c.hand.plans (c.args.end.now, c.args.plans.now) c.hand.end run.new.end
    c.args.bytes.now c.hand.bytes run.new.bytes c.hand.at run.result c.hand.auto.bytes
    c.hand.invariant run.ensures
