use Rattle.std.proofs.Common.{}
use Rattle.card_terminal.specs.Line.{HearsOne}
use Rattle.exchange_core.specs.BufferLaws.{one_taken}
use Rattle.card_terminal.proofs.session.hear.Goals as goal

pub loop-at-preserved : goal.loop-at-preserved
loop-at-preserved g c =
    one_taken (HearsOne c.args.end) _ _ _ c.args.bytes.now c.loop-at.at c.loop-at-test.true
    c.loop-at.invariant c.seen.ensures
