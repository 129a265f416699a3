use Rattle.tlv_core.proofs.Written.{writable_when_spelled}
use Rattle.tlv_core.proofs.forest_laws.spelled_objects_can_be_written.Goals as goal

pub returns : goal.returns
returns c = writable_when_spelled
