use Rattle.t1_core.proofs.Accounts.{each_fault_has_its_reason}
use Rattle.t1_core.proofs.laws.each_fault_has_its_reason.Goals as goal

pub returns : goal.returns
returns c = each_fault_has_its_reason
