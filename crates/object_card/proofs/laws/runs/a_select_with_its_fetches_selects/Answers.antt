use Rattle.object_card.specs.OperationLaws.{select_is_carried_out}
use Rattle.object_card.proofs.laws.runs.a_select_with_its_fetches_selects.Goals as goal

pub returns : goal.returns
returns c = select_is_carried_out
