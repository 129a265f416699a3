use Rattle.command_card.proofs.LineLemmas.{from_exchange, one_step}
use Rattle.command_card.proofs.AlikeLemmas.{from_t0, to_t0}
use Rattle.command_card.proofs.laws.both_lines_answer_alike.Goals as goal

pub returns-clause-from_t0 : goal.returns-clause-from_t0
returns-clause-from_t0 g c = from_t0 g.A.Application.takes g.A.Application.Does

pub returns-clause-in_one : goal.returns-clause-in_one
returns-clause-in_one g c = from_exchange g.A.Application.takes g.A.Application.Does

pub returns-clause-to_t0 : goal.returns-clause-to_t0
returns-clause-to_t0 g c = to_t0 g.A.Application.takes g.A.Application.Does

pub returns-clause-at_t1 : goal.returns-clause-at_t1
returns-clause-at_t1 g c = one_step g.A.Application.takes g.A.Application.Does
