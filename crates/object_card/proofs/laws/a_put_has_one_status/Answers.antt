use Rattle.object_card.proofs.PutLemmas.{one_status}
use Rattle.object_card.proofs.laws.a_put_has_one_status.Goals as goal

pub returns : goal.returns
returns c = one_status
