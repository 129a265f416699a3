use Rattle.card_trace.proofs.TableLemmas.{Listed}
use Rattle.card_trace.proofs.text.table_text.Given as goal

-- the text of the applications that are left is not written yet
abbrev pub invariant-loop-aid : goal.invariant-loop-aid
invariant-loop-aid g l =
    (goal.iterator-loop-aid g).can_next l.aid-iterator ×
    (goal.iterator-loop-aid g).is_finite l.aid-iterator ×
    Listed l.card.state.applications l.aid-iterator l.text.items
