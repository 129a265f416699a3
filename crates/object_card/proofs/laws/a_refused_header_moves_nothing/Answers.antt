use Rattle.object_card.proofs.KeepingLemmas.{refused_moves_nothing}
use Rattle.object_card.proofs.laws.a_refused_header_moves_nothing.Goals as goal

pub returns : goal.returns
returns c = refused_moves_nothing
