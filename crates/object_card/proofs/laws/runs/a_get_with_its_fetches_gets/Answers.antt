use Rattle.object_card.specs.OperationLaws.{get_is_carried_out, get_again_is_carried_out}
use Rattle.object_card.proofs.laws.runs.a_get_with_its_fetches_gets.Goals as goal

pub returns-clause-once : goal.returns-clause-once
returns-clause-once c = get_is_carried_out

pub returns-clause-again : goal.returns-clause-again
returns-clause-again c = get_again_is_carried_out
