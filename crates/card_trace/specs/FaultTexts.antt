-- The text of each fault, printed in one line.
use Rattle.std.specs.Prelude.{◌≡◌, ℕ, List, ◌++◌, codes, decimal, Option, Bool, true}
use Rattle.std.specs.Io.KnownBytes.{Appends}
use Rattle.tlv_core.specs.FaultText.{fault_text}
use Rattle.card_trace.specs.LineText.{newline}
use Rattle.card_trace.specs.ScriptReasons.{reason_text}
use Rattle.card_trace.specs.declared.objects_fault.ObjectsFault.{ObjectsFault}
use Rattle.card_trace.specs.declared.objects_fault.ObjectsFault.TheVariants as objects
use Rattle.card_trace.specs.declared.play_fault.PlayFault.{PlayFault}
use Rattle.card_trace.specs.declared.play_fault.PlayFault.TheVariants as play
use Rattle.card_trace.specs.declared.program_fault.ProgramFault.{ProgramFault}
use Rattle.card_trace.specs.declared.program_fault.ProgramFault.TheVariants as fault

-- why a script was not carried out to its end: the refused line with its reason, or another fault
abbrev pub play_text : PlayFault → List ℕ
play_text (play.Script line reason) =
    codes "line " ++ decimal line ++ codes ": " ++ reason_text reason
play_text play.Read = codes "read fault"
play_text play.Write = codes "write fault"
play_text play.InputTooLong = codes "input too long"
play_text play.OutOfMemory = codes "out of memory"

-- why objects were not printed
abbrev pub objects_text : ObjectsFault → List ℕ
objects_text (objects.Tlv f) = fault_text f
objects_text objects.Write = codes "write fault"
objects_text objects.OutOfMemory = codes "out of memory"

-- why the program ends with status 1
abbrev pub program_text : ProgramFault → List ℕ
program_text (fault.Play f) = play_text f
program_text (fault.Objects f) = objects_text f
program_text fault.BadHex = codes "bad hex"
program_text fault.Write = codes "write fault"
program_text fault.OutOfMemory = codes "out of memory"

-- if the writer took all, it has the text of the fault and LF, and no more
abbrev pub Prints : Bool → Option (List ℕ) → Option (List ℕ) → ProgramFault → Type 0
Prints taken old new f = taken ≡ true → Appends old new (program_text f ++ newline)
