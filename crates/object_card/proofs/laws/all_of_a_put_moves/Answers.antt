use Rattle.object_card.proofs.PendingLemmas.{all_of_a_put_moves}
use Rattle.object_card.proofs.laws.all_of_a_put_moves.Goals as goal

pub returns : goal.returns
returns c = all_of_a_put_moves
