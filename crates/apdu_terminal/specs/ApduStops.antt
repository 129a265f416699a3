-- An operation by whole commands that stops before its end: how far it is carried out.
use Rattle.std.specs.Prelude.{◌≡◌, List, ◌==◌, Some, true, false}
use Rattle.apdu_core.specs.declared.header.Header.{Header}
use Rattle.apdu_core.specs.CommandBytes.{Command}
use Rattle.object_card.specs.State.{CardState}
use Rattle.apdu_core.specs.Shared.{Reply}
use Rattle.object_card.specs.OneStep.{Operation, Answers, SameTables}
use Rattle.object_card.specs.Refusals.{is_get_response}
use Rattle.card_terminal.specs.Talk.{AreCommandsOf}
use Rattle.apdu_terminal.specs.Apdus.{Pair}
use Rattle.apdu_terminal.specs.ApduSide.{due_of}
use Rattle.apdu_terminal.specs.ApduOperations.{ApduOperationOf, LeadsTo}

-- the operation is carried out: the tables are those that it leaves in one step
abbrev pub IsDone : CardState → Operation → CardState → Type 0
IsDone old operation new =
    (answer : Reply) × (after : CardState) × Answers old operation answer after
    × SameTables after new

-- after these pairs of the operation this is its next command
pub record IsUnderWay (operation : Operation) (pairs : List Pair) (due : Command) : Type 0 where
  pub commands : List Command
  pub are : AreCommandsOf operation commands
  pub at : ApduOperationOf
  pub led : LeadsTo commands pairs (Some at)
  pub due_is : due_of at.exchange ≡ Some due

-- It stops before that command: a GET RESPONSE follows an operation that is carried out; before
-- every other command no table has changed.
pub record IsLeftBefore (old : CardState) (operation : Operation) (due : Header) (new : CardState)
    : Type 0 where
  pub carried_out : is_get_response due ≡ true → IsDone old operation new
  pub kept : is_get_response due ≡ false → SameTables old new

-- It stops after that command: a piece of a put that is not the last changes no table; every other
-- command carries the operation out; and before a GET RESPONSE it was carried out already.
pub record IsLeftAfter (old : CardState) (operation : Operation) (due : Header) (new : CardState)
    : Type 0 where
  pub kept : (due.cla == 0x10) ≡ true → SameTables old new
  pub carried_out : (due.cla == 0x10) ≡ false → IsDone old operation new
  pub still : is_get_response due ≡ true → IsDone old operation new
