use Rattle.tlv_core.proofs.Agree.{first_faults_agree}
use Rattle.tlv_core.proofs.reader_laws.one_first_fault.Goals as goal

pub returns : goal.returns
returns c = first_faults_agree
