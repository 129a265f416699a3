use Rattle.command_card.proofs.GivenEndLemmas.{responds_still, responds_if}
use Rattle.command_card.proofs.own.respond_to.Goals as goal

pub returns-clause-led : goal.returns-clause-led
returns-clause-led c =
    responds_if c.lend_respond.result c.args.end.now c.lend_respond.new.end
    (record { header = c.args.header; content = c.args.bytes.now; le = c.args.le })
    c.lend_respond.ensures.stage c.lend_respond.ensures.prepared c.lend_respond.ensures.free
    c.lend_respond.ensures.done

pub returns-clause-still : goal.returns-clause-still
returns-clause-still c =
    responds_still c.lend_respond.result c.args.end.now c.lend_respond.new.end
    c.lend_respond.ensures.stage c.lend_respond.ensures.prepared c.lend_respond.ensures.failed
