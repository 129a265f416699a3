use Rattle.object_card.proofs.OutcomeLemmas.{one_answer, wanting_memory, one_outcome}
use Rattle.object_card.proofs.laws.a_command_has_one_outcome.Goals as goal

pub returns-clause-operation : goal.returns-clause-operation
returns-clause-operation c = one_answer

pub returns-clause-tpdu : goal.returns-clause-tpdu
returns-clause-tpdu c = one_outcome

pub returns-clause-wanted : goal.returns-clause-wanted
returns-clause-wanted c = wanting_memory
