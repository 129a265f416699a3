use Rattle.std.proofs.Common.{arith}
use Rattle.std.proofs.lemmas.Result.{err_from_is_err_and}
use Rattle.atr_core.proofs.Ends.{one_more, all_read, next_fails}
use Rattle.atr_core.proofs.characters.historical.Goals as goal

pub returns-in_err-byte : goal.returns-in_err-byte
returns-in_err-byte c =
    let p = err_from_is_err_and c.from_residual.result c.from_residual.ensures.1 in
    rw (p.1, p.2) (next_fails _ _ _ _ _ _ _ c.loop-test.true c.loop.invariant c.in_err-byte.ensures)

pub loop-preserved : goal.loop-preserved
loop-preserved c = rw c.push.ensures.items
    (one_more _ _ _ _ _ _ _ c.loop-test.true c.loop.invariant c.in_ok-byte.ensures)

pub returns : goal.returns
returns c = all_read _ _ _ _ _ _ c.loop-test.false (omega arith) c.loop.invariant
