use Rattle.apdu_core.specs.PieceList.{pieces_of}
use Rattle.apdu_core.proofs.PieceLemmas.{is_pieces}
use Rattle.apdu_core.proofs.cut.pieces.Goals as goal

pub returns : goal.returns
returns c = (pieces_of c.args.value.now, is_pieces c.args.value.now, c.new.ensures)
