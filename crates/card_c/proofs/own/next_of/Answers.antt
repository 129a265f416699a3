use Rattle.card_c.proofs.OwnLemmas.{own_handed}
use Rattle.card_c.proofs.own.next_of.Goals as goal

pub returns-in-Some : goal.returns-in-Some
returns-in-Some c = own_handed c.args.plans.now _ c.next_data.new.self c.in-Some.byte
    c.in-Some.ensures
