use Rattle.std.proofs.Common.{arith}
use Rattle.std.proofs.lemmas.Bool.{ne_eqb}
use Rattle.trace_explain.proofs.TraceLemmas.{run_of_more, run_of_none}
use Rattle.trace_explain.proofs.explain.line_len.Goals as goal

pub loop-place-init : goal.loop-place-init
loop-place-init c = run_of_none

pub loop-place-preserved : goal.loop-place-preserved
loop-place-preserved c = run_of_more c.args.bytes.now c.loop-place.place
    (omega (arith, c.loop-place-test.true)) (ne_eqb _ 10 c.if-bytes-place-eq10.false)
    c.loop-place.invariant
