use Rattle.std.proofs.Common.{◌≡◌, drop}
use Rattle.trace_explain.specs.Patterns.{reads, reads_in}
use Rattle.trace_explain.proofs.read.form_row.read_rows.Given as goal

-- The rest decides.
abbrev pub invariant-loop-row : goal.invariant-loop-row
invariant-loop-row l = reads l.rows l.left l.line
    ≡ reads_in l.is_bad (drop l.row-index l.rows) l.left l.line
