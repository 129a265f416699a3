use Rattle.tlv_core.proofs.AddressFacts.{named_tags_agree}
use Rattle.tlv_core.proofs.reader_laws.one_tag_at_an_address.Goals as goal

pub returns : goal.returns
returns c = named_tags_agree
