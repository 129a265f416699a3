use Rattle.command_card.proofs.WholeLemmas.{gathers_the_response}
use Rattle.command_card.proofs.laws.an_exchange_gathers_the_response.Goals as goal

pub returns : goal.returns
returns g c = gathers_the_response g.A.Application.takes g.A.Application.Does
