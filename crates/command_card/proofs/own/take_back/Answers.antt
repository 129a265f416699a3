use Rattle.command_card.proofs.GivenEndLemmas.{takes_back_still, takes_back_on}
use Rattle.command_card.proofs.own.take_back.Goals as goal

pub returns-clause-led : goal.returns-clause-led
returns-clause-led c it =
    takes_back_on c.args.end.now c.lend_take_back.new.end c.lend_take_back.ensures.stage
    c.lend_take_back.ensures.prepared it c.lend_take_back.ensures.done

pub returns-clause-still : goal.returns-clause-still
returns-clause-still c it =
    takes_back_still c.args.end.now c.lend_take_back.new.end c.lend_take_back.ensures.stage it
    c.lend_take_back.ensures.done
