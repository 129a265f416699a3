use Rattle.card_c.proofs.FindLemmas.{Numbered}
use Rattle.card_c.proofs.find.tags_of.Given as goal

abbrev pub invariant-loop-at : goal.invariant-loop-at
invariant-loop-at l = Numbered l.path l.at l.tags
