use Rattle.command_card.proofs.GivenEndLemmas.{gives_still, gives_if}
use Rattle.command_card.proofs.own.give.Goals as goal

pub returns-clause-led : goal.returns-clause-led
returns-clause-led c =
    gives_if c.lend_give.result c.args.end.now c.lend_give.new.end c.args.bytes.now c.args.status
    c.lend_give.ensures.stage c.lend_give.ensures.prepared c.lend_give.ensures.awaits
    c.lend_give.ensures.done

pub returns-clause-still : goal.returns-clause-still
returns-clause-still c =
    gives_still c.lend_give.result c.args.end.now c.lend_give.new.end c.lend_give.ensures.stage
    c.lend_give.ensures.failed
