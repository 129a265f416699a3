use Rattle.object_card.proofs.KeepingLemmas.{not_found_keeps_selection}
use Rattle.object_card.proofs.laws.not_found_keeps_the_selection.Goals as goal

pub returns : goal.returns
returns c = not_found_keeps_selection
