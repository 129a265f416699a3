use Rattle.command_card.proofs.GivenEndLemmas.{leads_still}
use Rattle.command_card.proofs.own.forget.Goals as goal

pub returns-clause-still : goal.returns-clause-still
returns-clause-still c =
    leads_still c.args.end.now c.lend_forget.new.end c.lend_forget.ensures.stage
    c.lend_forget.ensures.stands c.lend_forget.ensures.prepared
