-- How a script ends before its last line: which line is refused, and what is written.
use Rattle.std.specs.Prelude.{◌≡◌, ◌<◌, ◌+◌, ℕ, List, ◌∷◌, ◌++◌, length, Option, IfSome, Result, IsErrAnd}
use Rattle.std.specs.Str.Lines.{lines}
use Rattle.std.specs.Io.KnownBytes.{Appends}
use Rattle.card_trace.specs.declared.play_fault.PlayFault.{PlayFault}
use Rattle.card_trace.specs.declared.play_fault.PlayFault.TheVariants.{Script as Refused, Read, Write, InputTooLong, OutOfMemory}
use Rattle.card_trace.specs.declared.script.reading.TheConstants.{SCRIPT_LIMIT}
use Rattle.card_trace.specs.declared.script.reason.LineReason.{LineReason}
use Rattle.card_trace.specs.ScriptReading.{IsReadingFault}
use Rattle.card_trace.specs.Script.{Script, State, Building, DoesAll, RefusesLine}

-- The line with this number, counted from 1, is refused for this reason. The lines before it are
-- carried out, and print this text.
pub record IsRefusedAt (s : Script) (all : List (List ℕ)) (text : List ℕ) (number : ℕ)
    (reason : LineReason) : Type 0 where
  pub before : List (List ℕ)
  pub line : List ℕ
  pub others : List (List ℕ)
  pub is_cut : all ≡ before ++ line ∷ others
  pub is_number : number ≡ length before + 1
  pub state : State s
  pub does : DoesAll s (Building s.empty) before text state
  pub refuses : RefusesLine s state line reason

-- The lines up to some place are carried out, and print this text.
pub record IsLeftAfter (s : Script) (all : List (List ℕ)) (text : List ℕ) : Type 0 where
  pub before : List (List ℕ)
  pub others : List (List ℕ)
  pub is_cut : all ≡ before ++ others
  pub state : State s
  pub does : DoesAll s (Building s.empty) before text state

-- What is written when a script ends with a fault. If a line is refused, the text of the lines
-- before it. If memory runs out, the text of the lines up to some place. If the reader fails or
-- gives too much, nothing. If the writer fails, it is not known how much.
abbrev pub ScriptStops : Script → Option (List ℕ) → Option (List ℕ) → Option (List ℕ) → PlayFault
    → Type 0
ScriptStops s script old new (Refused line reason) = (text : List ℕ) × Appends old new text
    × IfSome script (λ bytes. IsRefusedAt s (lines bytes) text line reason)
ScriptStops s script old new OutOfMemory = (text : List ℕ) × Appends old new text
    × IfSome script (λ bytes. IsLeftAfter s (lines bytes) text)
ScriptStops s script old new Read = new ≡ old
ScriptStops s script old new InputTooLong =
    (new ≡ old) × IfSome script (λ bytes. SCRIPT_LIMIT < length bytes)
ScriptStops s script old new Write = Unit {0}

-- The script was not read to its end, and nothing is written.
abbrev pub IsNotBegun : {T : Type 0} → Result T PlayFault → Option (List ℕ) → Option (List ℕ)
    → Type 0
IsNotBegun result old new = IsErrAnd result IsReadingFault × (new ≡ old)
