-- Which faults reading a script can have.
use Rattle.card_trace.specs.declared.play_fault.PlayFault.{PlayFault}
use Rattle.card_trace.specs.declared.play_fault.PlayFault.TheVariants.{Script, Read, Write, InputTooLong, OutOfMemory}

abbrev pub IsReadingFault : PlayFault → Type 0
IsReadingFault Read = Unit {0}
IsReadingFault InputTooLong = Unit {0}
IsReadingFault OutOfMemory = Unit {0}
IsReadingFault (Script line reason) = ⊥
IsReadingFault Write = ⊥
