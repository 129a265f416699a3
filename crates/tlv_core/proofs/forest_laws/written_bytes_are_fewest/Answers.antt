use Rattle.tlv_core.proofs.Written.{shortest_encoding}
use Rattle.tlv_core.proofs.forest_laws.written_bytes_are_fewest.Goals as goal

pub returns : goal.returns
returns c = shortest_encoding
