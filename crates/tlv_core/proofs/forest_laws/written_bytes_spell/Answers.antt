use Rattle.tlv_core.proofs.Written.{spelled_at_top}
use Rattle.tlv_core.proofs.forest_laws.written_bytes_spell.Goals as goal

pub returns : goal.returns
returns c = spelled_at_top
