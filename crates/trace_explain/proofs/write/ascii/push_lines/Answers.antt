use Rattle.std.proofs.Common.{◌<◌, length, rules}
use Rattle.trace_explain.proofs.SheetLemmas.{all_lines, one_line}
use Rattle.trace_explain.proofs.write.ascii.push_lines.Goals as goal

pub lines-preserved : goal.lines-preserved
lines-preserved c =
    let some : 0 < length c.lines.rest.now = search rules in
    one_line c.args.indent c.args.width c.args.is_text c.args.bytes.now c.lines.rest.now
    c.cut.result.0.now c.cut.result.1.now c.args.lines.now c.lines.lines c.push_line.new.lines
    c.lines.invariant some c.cut.ensures.front c.cut.ensures.back c.push_line.ensures

pub returns : goal.returns
returns c = all_lines c.args.indent c.args.width c.args.is_text c.args.bytes.now c.lines.rest.now
    c.args.lines.now c.lines.lines c.lines.invariant (search rules)
