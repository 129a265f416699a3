use Rattle.command_card.proofs.DeedLemmas.{through}
use Rattle.command_card.proofs.laws.each_command_at_most_once.Goals as goal

pub returns : goal.returns
returns g c =
    let a = g.A.Application in through a.takes a.Does a.after_reset
