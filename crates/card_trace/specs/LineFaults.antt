-- The faults of one line; the faults of a script consist of these and of those of reading.
use Rattle.std.specs.Prelude.{◌≡◌, ℕ, List, Option}
use Rattle.card_trace.specs.declared.play_fault.PlayFault.{PlayFault}
use Rattle.card_trace.specs.declared.play_fault.PlayFault.TheVariants.{Script, Read, Write, InputTooLong, OutOfMemory}
use Rattle.card_trace.specs.declared.script.reason.LineReason.{LineReason}

-- A fault of the line with this number. If the line is refused, or memory runs out, it writes
-- nothing.
abbrev pub IsFaultOfLine : (LineReason → Type 0) → ℕ → Option (List ℕ) → Option (List ℕ) → PlayFault
    → Type 0
IsFaultOfLine Refuses number old new (Script line reason) =
    (line ≡ number) × Refuses reason × (new ≡ old)
IsFaultOfLine Refuses number old new OutOfMemory = new ≡ old
IsFaultOfLine Refuses number old new Write = Unit {0}
IsFaultOfLine Refuses number old new Read = ⊥
IsFaultOfLine Refuses number old new InputTooLong = ⊥
