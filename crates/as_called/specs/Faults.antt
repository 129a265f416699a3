-- What a fault says of a command without an answer: the application was called once, or not at all.
use Rattle.std.specs.Prelude.{◌≡◌, ◌⊎◌, ℕ, List, Option, Some, None, Bool}
use Rattle.apdu_core.specs.declared.header.Header.{Header}
use Rattle.apdu_core.specs.CommandBytes.{Command}
use Rattle.apdu_core.specs.StatusWord.{StatusWord}
use Rattle.t1_core.specs.declared.terminal.Outcome.{Outcome}
use Rattle.t1_core.specs.declared.terminal.Outcome.TheVariants.{NotCarriedOut, Unknown, InPart}
use Rattle.command_card.specs.Calls.{told_to}
use Rattle.command_card.specs.Carrying.{Did, Makes}
use Rattle.as_called.specs.declared.fault.SendFault.{SendFault}
use Rattle.as_called.specs.declared.fault.SendFault.TheVariants.{OutOfMemory, Line, NoResponse}

-- what a fault says of the command
abbrev pub outcome_of : SendFault → Outcome
outcome_of OutOfMemory = NotCarriedOut
outcome_of (Line fault) = fault.outcome
outcome_of NoResponse = InPart

-- An outcome is true. `Not`: the command was not carried out. `Once`: it was, once.
abbrev pub IsTrue : Outcome → (Not Once : Type 0) → Type 0
IsTrue NotCarriedOut Not Once = Not
IsTrue InPart Not Once = Once
IsTrue Unknown Not Once = Not ⊎ Once

-- The application was called once with this command. Without one it was not called, since the card
-- alone answers.
abbrev pub HasCalled : {S : Type 0} → (S → Did → S → Type 0) → S → Option Command → S → Type 0
HasCalled Act old None new = new ≡ old
HasCalled Act old (Some called) new =
    (response : List ℕ) × (own : StatusWord) × Makes Act old called response own new

-- THE STATEMENT of faults. From the state `old` the terminal sent the command `c`, and got no
-- answer. The application is now in the state `new`, and the outcome is true.
abbrev pub IsLeft : {S : Type 0} → (S → Header → Bool) → (S → Did → S → Type 0) → S → Command
    → Outcome → S → Type 0
IsLeft takes Act old c outcome new =
    IsTrue outcome (new ≡ old) (HasCalled Act old (told_to (takes old) c) new)
