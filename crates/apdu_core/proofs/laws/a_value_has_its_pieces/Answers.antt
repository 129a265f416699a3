use Rattle.apdu_core.specs.PieceList.{pieces_of}
use Rattle.apdu_core.proofs.PieceLemmas.{is_pieces}
use Rattle.apdu_core.proofs.PieceFacts.{pieces_are_determined, pieces_concatenate}
use Rattle.apdu_core.proofs.laws.a_value_has_its_pieces.Goals as goal

pub returns-clause-exist : goal.returns-clause-exist
returns-clause-exist c = λ value. (pieces_of value, is_pieces value)

pub returns-clause-determined : goal.returns-clause-determined
returns-clause-determined c = pieces_are_determined

pub returns-clause-concatenate : goal.returns-clause-concatenate
returns-clause-concatenate c = pieces_concatenate
