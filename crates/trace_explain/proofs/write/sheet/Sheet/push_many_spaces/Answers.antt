use Rattle.trace_explain.proofs.SheetLemmas.{spaces_done, spaces_more}
use Rattle.trace_explain.proofs.write.sheet.Sheet.push_many_spaces.Goals as goal

pub loop-preserved : goal.loop-preserved
loop-preserved c =
    spaces_more c.args.count c.loop.counter c.loop-test.true c.loop.invariant c.push.ensures

pub returns : goal.returns
returns c = spaces_done c.args.count c.loop.counter c.loop-test.false c.loop.invariant
