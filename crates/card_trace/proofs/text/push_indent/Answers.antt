use Rattle.card_trace.proofs.ObjectsLemmas.{two_more}
use Rattle.card_trace.proofs.text.push_indent.Goals as goal

pub loop-level-preserved : goal.loop-level-preserved
loop-level-preserved g c =
    two_more c.args.text.now.items c.loop-level.text.items c.extend_from_slice.new.self.items
    c.loop-level._level c.loop-level.invariant
    c.in_ok-extend_from_slice.ensures.items
