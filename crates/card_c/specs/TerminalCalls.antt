-- What the calls on the handle of a terminal do to its content. A refusal changes nothing.
use Rattle.std.specs.Prelude.{◌≡◌, ◌<◌, ◌≤◌, ◌⊎◌, ℕ, ℤ, List, [], ◌∷◌, Option, Some, None, Result, Ok, Err, MatchOption, Bool, true, false, ◌&&◌, if◌then◌else◌}
use Rattle.apdu_core.specs.declared.command.ApduFault.{ApduFault}
use Rattle.apdu_core.specs.CommandBytes.{Command, IsCommand, command_bytes}
use Rattle.apdu_core.specs.StatusWord.{StatusWord}
use Rattle.t0_core.specs.declared.host_end.HostTurn.{HostTurn}
use Rattle.t0_core.specs.declared.line_fault.LineFault.{LineFault}
use Rattle.t0_core.specs.declared.answer_fault.AnswerFault.{AnswerFault}
use Rattle.object_card.specs.Tables.{IsAid}
use Rattle.object_card.specs.OneStep.{Select, Get, Put}
use Rattle.card_terminal.specs.declared.terminal.begin_fault.BeginFault.{BeginFault}
use Rattle.card_terminal.specs.declared.terminal.begin_fault.BeginFault.TheVariants.{OutOfMemory, UnderWay}
use Rattle.card_terminal.specs.Talk.{AreCommandsOf}
use Rattle.exchange_core.specs.ExchangeSide.{response_limit}
use Rattle.card_terminal.specs.TerminalSide.{TerminalOf, OperationOf, KeepsLimit, at_rest, is_going}
use Rattle.card_terminal.specs.TerminalSteps.{IsBeginning, IsTerminalTurn, IsTerminalTaking, IsTerminalAnswering, IsTerminalAnswer, terminal_due}
use Rattle.card_c.specs.declared.terminal_side.TerminalSide.{TerminalSide}
use Rattle.card_terminal.specs.declared.unsent.Unsent.{Unsent}
use Rattle.card_terminal.specs.Unsent.{IsUnsent}
use Rattle.apdu_terminal.specs.ApduOperations as apdu
use Rattle.apdu_terminal.specs.ApduOperations.{IsOperationAnswer, is_under_way}
use Rattle.card_c.specs.declared.apdu_side.ApduSide.{ApduSide}
use Rattle.card_c.specs.ApduCalls.{Opens}
use Rattle.card_c.specs.Codes.{gt_ok, gt_state, gt_memory, gt_argument, gt_no_status, command_code}
use Rattle.card_c.specs.ExchangeCalls.{AreNone, turn_code, turn_byte, taking_code, TellsEnd}
use Rattle.card_c.specs.TagNumbers.{IsNumbered}
use Rattle.card_c.specs.TpduCalls.{AreAnswer, TellsTpdu, answered_code}

-- The limit on responses stays, and is the room of the operation's exchange; or nothing changes.
abbrev pub KeepsRoom : TerminalOf → TerminalOf → Type 0
KeepsRoom old new = KeepsLimit old new ⊎ (new ≡ old)

-- A call by characters or TPDUs is refused if the operation goes by whole commands, and otherwise
-- does this. If it is refused, `Unwritten` holds.
pub record OnTpdus (Unwritten : Type 0)
    (Does : Option OperationOf → ℤ → Option OperationOf → Type 0) (old : TerminalSide) (code : ℤ)
    (new : TerminalSide) : Type 0 where
  pub refused : old.apdus.leads ≡ true → (code ≡ gt_state) × (new ≡ old) × Unwritten
  pub does : old.apdus.leads ≡ false
      → Does old.terminal.operation code new.terminal.operation
  pub room : KeepsRoom old.terminal new.terminal
  pub apdus : new.apdus ≡ old.apdus

-- an operation is in progress by whole commands
abbrev pub is_led : TerminalSide → Bool
is_led side = side.apdus.leads && is_under_way side.apdus.terminal.operation

-- A call that begins an operation is refused while one is in progress by whole commands, and
-- otherwise does this. One that has begun goes neither by TPDUs nor by whole commands yet. If it is
-- refused, the last answer stays.
pub record OnBegin (Does : Option OperationOf → ℤ → Option OperationOf → Type 0)
    (old : TerminalSide) (code : ℤ) (new : TerminalSide) : Type 0 where
  pub refused : is_led old ≡ true → (code ≡ gt_state) × (new ≡ old)
  pub does : is_led old ≡ false → Does old.terminal.operation code new.terminal.operation
  pub room : KeepsRoom old.terminal new.terminal
  pub apdus : new.apdus.terminal ≡ old.apdus.terminal
  pub begun : code ≡ gt_ok → new.apdus.leads ≡ false
  pub stays : (code ≡ gt_ok → ⊥) → new.apdus.leads ≡ old.apdus.leads

-- A call by whole commands does this, on an operation that goes by them, or that begins by them
-- now.
pub record OnApdus (Does : ApduSide → ℤ → ApduSide → Type 0) (old : TerminalSide) (code : ℤ)
    (new : TerminalSide) : Type 0 where
  pub goes_so : old.apdus.leads ≡ true → Does old.apdus code new.apdus
  pub opens : old.apdus.leads ≡ false → (unsent : Option Unsent)
      × IsUnsent old.terminal.operation unsent × Opens Does unsent old.apdus code new.apdus

-- A call that only looks for the next command leaves the terminal of TPDUs as it is.
abbrev pub LooksAtApdus : (ApduSide → ℤ → ApduSide → Type 0) → TerminalSide → ℤ → TerminalSide
    → Type 0
LooksAtApdus Does old code new = OnApdus Does old code new × (new.terminal ≡ old.terminal)

-- Once the operation goes by whole commands, the terminal of TPDUs is at rest, so that another
-- operation can begin. Before, it stays as it is.
abbrev pub TakesByApdus : (ApduSide → ℤ → ApduSide → Type 0) → TerminalSide → ℤ → TerminalSide
    → Type 0
TakesByApdus Does old code new = OnApdus Does old code new
    × (new.terminal ≡ (if new.apdus.leads then at_rest old.terminal.limit else old.terminal))

-- no operation has begun, by TPDUs or by whole commands
pub record IsAtRest (limit : ℕ) (side : TerminalSide) : Type 0 where
  pub terminal : side.terminal ≡ at_rest limit
  pub apdus : side.apdus.terminal ≡ apdu.at_rest limit
  pub leads : side.apdus.leads ≡ false

-- a terminal with this limit on responses, in a handle that was empty; it has begun no operation
abbrev pub HasBegun : ℕ → Option TerminalSide → ℤ → Option TerminalSide → Type 0
HasBegun limit (Some old) code new = (code ≡ gt_state) × (new ≡ Some old)
HasBegun limit None code new =
    ((response_limit < limit) × (code ≡ gt_argument) × (new ≡ None))
    ⊎ ((limit ≤ response_limit) × (code ≡ gt_memory) × (new ≡ None))
    ⊎ ((limit ≤ response_limit) × (code ≡ gt_ok)
    × MatchOption new ⊥ (λ side. IsAtRest limit side))

-- the operation in progress is dropped, by TPDUs or by whole commands
abbrev pub Resets : TerminalSide → ℤ → TerminalSide → Type 0
Resets old code new = (code ≡ gt_ok) × (new.terminal ≡ at_rest old.terminal.limit)
    × (new.apdus.terminal ≡ apdu.at_rest old.apdus.terminal.limit) × (new.apdus.leads ≡ false)

-- how an operation is begun
abbrev pub begin_code : Result (Unit {0}) BeginFault → ℤ
begin_code (Ok _) = gt_ok
begin_code (Err UnderWay) = gt_state
begin_code (Err OutOfMemory) = gt_memory

abbrev pub Begins : (List Command → Type 0) → Option OperationOf → ℤ → Option OperationOf → Type 0
Begins AreIts old code new = (begun : Result (Unit {0}) BeginFault) × (code ≡ begin_code begun)
    × IsBeginning AreIts old begun new

-- why no operation begins: one is in progress, or else an argument is invalid
abbrev pub IsRefusedWith : ℤ → Option OperationOf → ℤ → Option OperationOf → Type 0
IsRefusedWith fault old code new =
    (code ≡ (if is_going old then gt_state else fault)) × (new ≡ old)

abbrev pub BeginsSelect : List ℕ → Option OperationOf → ℤ → Option OperationOf → Type 0
BeginsSelect aid old code new =
    ((¬ IsAid aid) × IsRefusedWith gt_argument old code new)
    ⊎ (IsAid aid × Begins (AreCommandsOf (Select aid)) old code new)

abbrev pub BeginsGet : ℕ → Option OperationOf → ℤ → Option OperationOf → Type 0
BeginsGet number old code new =
    (((tag : List ℕ) → ¬ IsNumbered number tag) × IsRefusedWith gt_argument old code new)
    ⊎ ((tag : List ℕ) × IsNumbered number tag × Begins (AreCommandsOf (Get tag)) old code new)

abbrev pub BeginsPut : ℕ → List ℕ → Option OperationOf → ℤ → Option OperationOf → Type 0
BeginsPut number value old code new =
    (((tag : List ℕ) → ¬ IsNumbered number tag) × IsRefusedWith gt_argument old code new)
    ⊎ ((tag : List ℕ) × IsNumbered number tag
    × Begins (AreCommandsOf (Put tag value)) old code new)

abbrev pub BeginsSend : List ℕ → Option OperationOf → ℤ → Option OperationOf → Type 0
BeginsSend bytes old code new =
    ((fault : ApduFault) × AreNone bytes fault
    × IsRefusedWith (command_code fault) old code new)
    ⊎ ((c : Command) × IsCommand c × (bytes ≡ command_bytes c)
    × Begins (λ commands. commands ≡ c ∷ []) old code new)

-- the terminal's turn; if no operation has begun, it has none
abbrev pub told_turn : Option HostTurn → ℤ
told_turn None = gt_state
told_turn (Some turn) = turn_code turn

abbrev pub told_byte : Option HostTurn → ℕ → ℕ
told_byte None before = before
told_byte (Some turn) before = turn_byte turn before

abbrev pub TakesTurn : ℕ → ℕ → Option OperationOf → ℤ → Option OperationOf → Type 0
TakesTurn before byte old code new = (turn : Option HostTurn) × (code ≡ told_turn turn)
    × (byte ≡ told_byte turn before) × IsTerminalTurn old turn new

abbrev pub TakesCharacter : ℕ → Option OperationOf → ℤ → Option OperationOf → Type 0
TakesCharacter byte old code new = (taken : Result (Unit {0}) LineFault)
    × (code ≡ taking_code taken) × IsTerminalTaking old byte taken new

abbrev pub TakesAnswer : List ℕ → Option OperationOf → ℤ → Option OperationOf → Type 0
TakesAnswer answer old code new =
    (((bytes : List ℕ) (status : StatusWord) → AreAnswer answer bytes status → ⊥)
    × (code ≡ gt_no_status) × (new ≡ old))
    ⊎ ((bytes : List ℕ) × (status : StatusWord) × AreAnswer answer bytes status
    × (taken : Result (Unit {0}) AnswerFault) × (code ≡ answered_code taken)
    × IsTerminalAnswering old bytes status taken new)

-- The answer of an operation is written, if there is one.
abbrev pub TellsAnswer : TerminalSide → ℕ → List ℕ → ℕ → ℤ → ℕ → List ℕ → ℕ → Type 0
TellsAnswer side status room len code status' room' len' =
    (answer : Option (StatusWord × List ℕ))
    × (side.apdus.leads ≡ false → IsTerminalAnswer side.terminal.operation answer)
    × (side.apdus.leads ≡ true → IsOperationAnswer side.apdus.terminal.operation answer)
    × TellsEnd answer status room len code status' room' len'

-- the next whole TPDU, unless the operation goes by whole commands
pub record TellsTpduOf (side : TerminalSide) (room : List ℕ) (len most : ℕ) (code : ℤ)
    (room' : List ℕ) (len' most' : ℕ) : Type 0 where
  pub refused : side.apdus.leads ≡ true
      → (code ≡ gt_state) × (room' ≡ room) × (len' ≡ len) × (most' ≡ most)
  pub told : side.apdus.leads ≡ false
      → TellsTpdu (terminal_due side.terminal.operation) room len most code room' len' most'
