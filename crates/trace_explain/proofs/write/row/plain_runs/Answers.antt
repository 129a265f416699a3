use Rattle.std.proofs.Common.{◌+◌, arith}
use Rattle.trace_explain.specs.Written.{letter}
use Rattle.trace_explain.proofs.SheetLemmas.{plain_longer}
use Rattle.trace_explain.proofs.write.row.plain_runs.Goals as goal

pub runs-preserved : goal.runs-preserved
runs-preserved c = (
  omega (arith, c.runs-test.true, c.runs.invariant.0),
  λ indent. plain_longer (letter c.args.medium indent) c.args.text.now c.runs.len
      (c.runs.len + 16) (omega arith) (c.runs.invariant.1 indent)
      (c.are_plain.ensures c.if-not-are_plain.false indent),
)
