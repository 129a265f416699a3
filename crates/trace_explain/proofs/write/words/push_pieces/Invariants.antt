use Rattle.trace_explain.specs.Sheets.{Joins}
use Rattle.trace_explain.proofs.write.words.push_pieces.Given as goal

-- the pieces so far
abbrev pub invariant-pieces : goal.invariant-pieces
invariant-pieces l = Joins l.initial.sheet l.sheet
