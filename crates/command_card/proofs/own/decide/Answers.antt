use Rattle.std.proofs.Common.{◌∙◌, sym}
use Rattle.command_card.proofs.GivenEndLemmas.{same_card_still, decides_on}
use Rattle.command_card.proofs.own.decide.Goals as goal

pub returns-clause-led : goal.returns-clause-led
returns-clause-led c it =
    decides_on c.args.end.now c.lend_decide.new.end c.args.to_card c.lend_decide.ensures.stage
    c.lend_decide.ensures.prepared (sym c.lend_decide.ensures.when ∙ it)
    (c.lend_decide.ensures.done it)

pub returns-clause-still : goal.returns-clause-still
returns-clause-still c it =
    same_card_still c.args.end.now c.lend_decide.new.end c.lend_decide.ensures.stage
    (c.lend_decide.ensures.failed it)
