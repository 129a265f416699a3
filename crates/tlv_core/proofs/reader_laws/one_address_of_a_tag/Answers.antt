use Rattle.tlv_core.proofs.AddressFacts.{addresses_agree}
use Rattle.tlv_core.proofs.reader_laws.one_address_of_a_tag.Goals as goal

pub returns : goal.returns
returns c = addresses_agree
