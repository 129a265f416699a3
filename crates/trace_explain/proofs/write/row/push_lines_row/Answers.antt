use Rattle.trace_explain.specs.Written.{row}
use Rattle.trace_explain.proofs.write.row.push_lines_row.Goals as goal

pub returns-then-is_cut : goal.returns-then-is_cut
returns-then-is_cut c =
    λ text has. c.cut.ensures (row c.args.sheet.now.layout.medium c.args.side c.args.label.now text)
