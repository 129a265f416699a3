use Rattle.trace_explain.proofs.SheetLemmas.{adds_as, hex_done, hex_more}
use Rattle.trace_explain.proofs.write.sheet.Sheet.push_hex.Goals as goal

pub loop-byte-preserved : goal.loop-byte-preserved
loop-byte-preserved c = hex_more c.args.bytes.now c.loop-byte.byte-index c.loop-byte-test.true
    c.loop-byte.invariant (adds_as c.digit.ensures c.push.ensures)
    (adds_as c.digit-in-loop-byte.ensures c.push-in-loop-byte.ensures)

pub returns : goal.returns
returns c = hex_done c.args.bytes.now c.loop-byte.byte-index c.loop-byte-test.false
    c.loop-byte.invariant
