use Rattle.object_card.proofs.HistoryLemmas.{same_shown}
use Rattle.object_card.proofs.laws.histories.alike_items_show_the_same_puts.Goals as goal

pub returns : goal.returns
returns c = same_shown
