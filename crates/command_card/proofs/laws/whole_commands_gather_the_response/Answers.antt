use Rattle.command_card.proofs.GatherLemmas.{whole_gathers}
use Rattle.command_card.proofs.laws.whole_commands_gather_the_response.Goals as goal

pub returns : goal.returns
returns g c = whole_gathers g.A.Application.takes g.A.Application.Does
