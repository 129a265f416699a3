-- The texts of the errors of a session, of a terminal and of a limit.
use Rattle.std.specs.Prelude.{ℕ, List, codes}
use Rattle.t0_core.specs.FaultText.{fault_text}
use Rattle.card_terminal.specs.declared.session_fault.SessionFault.{SessionFault}
use Rattle.card_terminal.specs.declared.session_fault.SessionFault.TheVariants.{OutOfMemory, Line}
use Rattle.card_terminal.specs.declared.terminal.begin_fault.BeginFault.{BeginFault}
use Rattle.card_terminal.specs.declared.terminal.begin_fault.BeginFault.TheVariants as begin
use Rattle.exchange_core.specs.declared.start_fault.StartFault.{StartFault}
use Rattle.exchange_core.specs.declared.start_fault.StartFault.TheVariants as start
use Rattle.exchange_core.specs.FaultText.{start_text}

-- why a session has no answer to a command
abbrev pub session_text : SessionFault → List ℕ
session_text OutOfMemory = codes "out of memory"
session_text (Line fault) = fault_text fault

-- why no operation has begun
abbrev pub begin_text : BeginFault → List ℕ
begin_text begin.OutOfMemory = codes "out of memory"
begin_text begin.UnderWay = codes "an operation is under way"
