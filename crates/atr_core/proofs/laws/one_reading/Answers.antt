use Rattle.atr_core.proofs.OneReading.{one_reading}
use Rattle.atr_core.proofs.Spelled.{no_fault}
use Rattle.atr_core.proofs.laws.one_reading.Goals as goal

pub returns : goal.returns
returns c = record { one = one_reading; no_fault = no_fault }
