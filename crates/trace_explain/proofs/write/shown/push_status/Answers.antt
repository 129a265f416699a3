use Rattle.std.proofs.Common.{drop}
use Rattle.trace_explain.specs.Written.{status_row}
use Rattle.trace_explain.proofs.write.shown.push_status.Goals as goal

pub returns-then-is_cut : goal.returns-then-is_cut
returns-then-is_cut c = λ text has. c.cut.ensures
    (status_row c.args.sheet.now.layout.medium c.args.side c.args.status.now (drop 1 text))
