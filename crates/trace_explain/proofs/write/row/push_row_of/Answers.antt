use Rattle.trace_explain.specs.Written.{some_row}
use Rattle.trace_explain.proofs.write.row.push_row_of.Goals as goal

pub returns-then-is_cut : goal.returns-then-is_cut
returns-then-is_cut c =
    λ text has. c.cut.ensures
    (some_row c.args.sheet.now.layout.medium c.args.side c.args.label.now text)
