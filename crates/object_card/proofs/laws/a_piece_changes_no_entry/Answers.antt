use Rattle.object_card.proofs.KeepingLemmas.{chaining_keeps_applications}
use Rattle.object_card.proofs.laws.a_piece_changes_no_entry.Goals as goal

pub returns : goal.returns
returns c = chaining_keeps_applications
