-- The texts of the errors of a session, of a terminal and of a limit.
use Rattle.std.specs.Prelude.{ℕ, List, codes}
use Rattle.t0_core.specs.FaultText.{fault_text}
use Rattle.exchange_core.specs.declared.start_fault.StartFault.{StartFault}
use Rattle.exchange_core.specs.declared.start_fault.StartFault.TheVariants as start

-- why no exchange or terminal was made with a limit
abbrev pub start_text : StartFault → List ℕ
start_text start.OutOfMemory = codes "out of memory"
start_text start.OverLimit = codes "the limit is over 16384 bytes"
