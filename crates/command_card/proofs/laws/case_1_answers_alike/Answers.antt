use Rattle.command_card.proofs.CaseLemmas.{case_from_t0, case_to_t0}
use Rattle.command_card.proofs.laws.case_1_answers_alike.Goals as goal

pub returns-clause-from_t0 : goal.returns-clause-from_t0
returns-clause-from_t0 g c = case_from_t0 g.A.Application.takes g.A.Application.Does

pub returns-clause-to_t0 : goal.returns-clause-to_t0
returns-clause-to_t0 g c = case_to_t0 g.A.Application.takes g.A.Application.Does
