use Rattle.object_card.proofs.EntryLemmas.{entries_stay}
use Rattle.object_card.proofs.laws.only_a_put_changes_entries.Goals as goal

pub returns : goal.returns
returns c = entries_stay
