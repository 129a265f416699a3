use Rattle.std.proofs.Common.{◌≡◌, ◌++◌}
use Rattle.object_card.specs.Tables.{entries_in}
use Rattle.card_trace.specs.MarkedLines.{marked_lines}
use Rattle.card_trace.proofs.text.push_entries.Given as goal

-- the written text and the lines that are left make the whole text
abbrev pub invariant-loop-tag : goal.invariant-loop-tag
invariant-loop-tag g l =
    (goal.iterator-loop-tag g).can_next l.tag-iterator ×
    (goal.iterator-loop-tag g).is_finite l.tag-iterator ×
    (l.text.items ++ marked_lines (entries_in l.aid l.card.state.applications) l.tag-iterator
    ≡ l.fn.text.items ++ marked_lines (entries_in l.aid l.card.state.applications) l.fn.entries)
