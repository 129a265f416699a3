use Rattle.std.proofs.Common.{◌<◌, ◌+◌, length, subst, inl, arith}
use Rattle.command_card.specs.Wanted.{IsWanted}
use Rattle.card_c.specs.OwnCalls.{OwnHandsOutOne, own_card}
use Rattle.card_c.proofs.BufferLemmas.{data_handed_by, one_handed_by}
use Rattle.card_c.proofs.OwnLemmas.{own_driven}
use Rattle.card_c.proofs.own.send_all.Goals as goal

pub send-preserved-then-run-eq0 : goal.send-preserved-then-run-eq0
send-preserved-then-run-eq0 c =
    let run = c.hand_run-run in
    let at = c.send.at + run.result in
    let below : at < length run.new.bytes =
    omega (arith, c.if-run-eq0.true, c.send-test.true, run.auto.bytes) in
    one_handed_by OwnHandsOutOne (c.args.end.now, c.args.plans.now) (run.new.end, c.send.plans)
    (c.next_other.new.end, c.next_other.new.plans) c.args.bytes.now run.new.bytes at
    c.in-Some.byte below (omega (arith, run.auto.bytes, c.send.auto.bytes))
    (data_handed_by own_card OwnHandsOutOne own_driven c.send.plans
    (c.args.end.now, c.args.plans.now) c.send.end run.new.end c.args.bytes.now c.send.bytes
    run.new.bytes c.send.at run.result c.send.auto.bytes c.send.invariant run.ensures) (
      inl (subst (λ w. IsWanted run.new.end w) c.in-Nothing.is c.wanted_next.ensures),
      c.in-Some.ensures,
    )

pub send-preserved : goal.send-preserved
send-preserved c =
    let run = c.hand_run-run in
    data_handed_by own_card OwnHandsOutOne own_driven c.send.plans
    (c.args.end.now, c.args.plans.now) c.send.end run.new.end c.args.bytes.now c.send.bytes
    run.new.bytes c.send.at run.result c.send.auto.bytes c.send.invariant run.ensures
