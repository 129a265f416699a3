use Rattle.trace_explain.proofs.SheetLemmas.{none_joined, piece_joined}
use Rattle.trace_explain.proofs.write.words.push_pieces.Goals as goal

pub pieces-init : goal.pieces-init
pieces-init c = none_joined

pub pieces-preserved : goal.pieces-preserved
pieces-preserved c = piece_joined _ c.cut.result.0.now c.piece-item.result.own c.pieces.invariant
    c.push_piece.ensures
