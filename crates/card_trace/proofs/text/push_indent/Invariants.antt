use Rattle.std.proofs.Common.{◌≡◌, ◌++◌}
use Rattle.card_trace.specs.ForestText.{indent}
use Rattle.card_trace.proofs.text.push_indent.Given as goal

-- the first `_level` levels are written
abbrev pub invariant-loop-level : goal.invariant-loop-level
invariant-loop-level g l = l.text.items ≡ l.fn.text.items ++ indent l._level
