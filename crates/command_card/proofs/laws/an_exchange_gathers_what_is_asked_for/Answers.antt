use Rattle.command_card.proofs.WholeLemmas.{gathers_a_part}
use Rattle.command_card.proofs.laws.an_exchange_gathers_what_is_asked_for.Goals as goal

pub returns : goal.returns
returns g c = gathers_a_part g.A.Application.takes g.A.Application.Does
