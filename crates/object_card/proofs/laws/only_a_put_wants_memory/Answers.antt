use Rattle.object_card.proofs.OutcomeLemmas.{only_a_put_wants}
use Rattle.object_card.proofs.laws.only_a_put_wants_memory.Goals as goal

pub returns : goal.returns
returns c = only_a_put_wants
