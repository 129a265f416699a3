use Rattle.object_card.proofs.PendingLemmas.{response_is_announced}
use Rattle.object_card.proofs.laws.a_response_is_announced.Goals as goal

pub returns : goal.returns
returns c = response_is_announced
