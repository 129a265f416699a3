use Rattle.trace_explain.specs.Written.{title_text}
use Rattle.trace_explain.proofs.write.shown.push_title.Goals as goal

pub returns-then-is_cut : goal.returns-then-is_cut
returns-then-is_cut c = λ text has. c.cut.ensures (title_text c.args.sheet.now.layout.medium
    c.args.kind c.args.number text c.args.status.now)
