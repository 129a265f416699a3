use Rattle.tlv_core.proofs.NextObject.{next_is_first, none_is_empty}
use Rattle.tlv_core.proofs.reader_laws.next_is_the_first_object.Goals as goal

pub returns : goal.returns
returns c = record { some = next_is_first; none = none_is_empty }
