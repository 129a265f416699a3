-- What the exports for an exchange return and change.
use Rattle.std.specs.Prelude.{◌≡◌, ◌⊎◌, ℕ, ℤ, ◌<◌, ◌≤◌, List, [], length, Option, Some, None, Result, Ok, Err, MatchOption, IfSome, true, false}
use Rattle.std.specs.Option.{option_map}
use Rattle.apdu_core.specs.declared.command.ApduFault.{ApduFault}
use Rattle.apdu_core.specs.declared.command.ApduFault.TheVariants.{TooShort, BadLength, InvalidIns}
use Rattle.apdu_core.specs.StatusWord.{StatusWord}
use Rattle.apdu_core.specs.CommandBytes.{Command, IsCommand, HasForm, HasInvalidIns, command_bytes}
use Rattle.t0_core.specs.declared.host_end.HostTurn.{HostTurn}
use Rattle.t0_core.specs.declared.host_end.HostTurn.TheVariants.{Sends, Listens, Done, Failed}
use Rattle.t0_core.specs.declared.line_fault.LineFault.{LineFault}
use Rattle.t0_core.specs.Front.{fresh}
use Rattle.card_terminal.specs.declared.unsent.Unsent.{Unsent}
use Rattle.exchange_core.specs.Unsent.{IsFirst}
use Rattle.exchange_core.specs.ExchangeSide.{ExchangeOf, UnderWay, GoesByCharacters, exchange_turn, response_limit}
use Rattle.exchange_core.specs.ExchangeSteps.{IsTurn, IsTaking, IsAnswer}
use Rattle.apdu_terminal.specs.ApduOperations.{IsOperationAnswer, at_rest}
use Rattle.card_c.specs.declared.apdu_side.ApduSide.{ApduSide}
use Rattle.card_c.specs.declared.exchange_side.ExchangeSide.{ExchangeSide}
use Rattle.card_c.specs.ApduCalls.{Opens}
use Rattle.exchange_core.specs.ExchangeHistory.{ComesTo}
use Rattle.card_c.specs.Codes.{gt_ok, gt_sends, gt_done, gt_failed, gt_state, gt_memory, gt_argument, line_code, command_code}
use Rattle.card_c.specs.Copying.{GoesOut}
use Rattle.t0_core.specs.TpduBytes.{due_by}
use Rattle.card_c.specs.TpduCalls.{TellsTpdu}

-- why these bytes are not a command
abbrev pub AreNone : List ℕ → ApduFault → Type 0
AreNone bytes TooShort = length bytes < 4
AreNone bytes BadLength = (4 ≤ length bytes) × (HasForm bytes → ⊥)
AreNone bytes InvalidIns = (c : Command) × HasInvalidIns c × (bytes ≡ command_bytes c)

-- the bytes are a command
abbrev pub AreCommand : List ℕ → Type 0
AreCommand bytes = (c : Command) × IsCommand c × (bytes ≡ command_bytes c)

-- why no exchange of these bytes begins, with this limit on its response: they are not a command,
-- the limit is too high, or memory ran out
abbrev pub IsRefused : List ℕ → ℕ → ℤ → Type 0
IsRefused bytes limit code =
    ((fault : ApduFault) × AreNone bytes fault × (code ≡ command_code fault))
    ⊎ ((code ≡ gt_argument) × (response_limit < limit) × AreCommand bytes)
    ⊎ ((code ≡ gt_memory) × (limit ≤ response_limit) × AreCommand bytes)

-- an exchange of the command with these bytes, before its first character
abbrev pub IsBegun : List ℕ → ℕ → ExchangeOf → Type 0
IsBegun bytes limit ex = (c : Command) × IsCommand c × (bytes ≡ command_bytes c)
    × (ex.gather.limit ≡ limit) × UnderWay c ex [] None fresh × ComesTo c [] ex
    × GoesByCharacters ex

-- it goes neither by TPDUs nor by whole commands yet
pub record HasBegun (bytes : List ℕ) (limit : ℕ) (side : ExchangeSide) : Type 0 where
  pub begun : IsBegun bytes limit side.exchange
  pub apdus : side.apdus.terminal ≡ at_rest limit
  pub leads : side.apdus.leads ≡ false

-- An exchange begins in an empty handle, or the handle stays empty. A live one keeps its exchange.
abbrev pub Starts : List ℕ → ℕ → Option ExchangeSide → ℤ → Option ExchangeSide → Type 0
Starts bytes limit (Some old) code new = (code ≡ gt_state) × (new ≡ Some old)
Starts bytes limit None code new = MatchOption new (IsRefused bytes limit code)
    (λ side. (code ≡ gt_ok) × HasBegun bytes limit side)

-- A call by characters or TPDUs is refused if the exchange goes by whole commands, and otherwise
-- does this. If it is refused, `Unwritten` holds.
pub record ByTpdus (Unwritten : Type 0) (Does : ExchangeOf → ℤ → ExchangeOf → Type 0)
    (old : ExchangeSide) (code : ℤ) (new : ExchangeSide) : Type 0 where
  pub refused : old.apdus.leads ≡ true → (code ≡ gt_state) × (new ≡ old) × Unwritten
  pub does : old.apdus.leads ≡ false → Does old.exchange code new.exchange
  pub apdus : new.apdus ≡ old.apdus

-- what an exchange has to send, if nothing of it was sent: its command alone
pub record IsUnsentOf (ex : ExchangeOf) (unsent : Option Unsent) : Type 0 where
  pub first : IsFirst ex (option_map (λ u. u.first) unsent)
  pub alone : IfSome unsent (λ u. u.rest.now ≡ [])

-- A call by whole commands does this, on an exchange that goes by them, or that begins by them now.
pub record ByApdus (Does : ApduSide → ℤ → ApduSide → Type 0) (old : ExchangeSide) (code : ℤ)
    (new : ExchangeSide) : Type 0 where
  pub goes_so : old.apdus.leads ≡ true → Does old.apdus code new.apdus
  pub opens : old.apdus.leads ≡ false → (unsent : Option Unsent)
      × IsUnsentOf old.exchange unsent × Opens Does unsent old.apdus code new.apdus
  pub exchange : new.exchange ≡ old.exchange

-- the code of the terminal's turn, and the character that it sends
abbrev pub turn_code : HostTurn → ℤ
turn_code (Sends byte) = gt_sends
turn_code Listens = gt_ok
turn_code (Done status) = gt_done
turn_code Failed = gt_failed

abbrev pub turn_byte : HostTurn → ℕ → ℕ
turn_byte (Sends byte) before = byte
turn_byte Listens before = before
turn_byte (Done status) before = before
turn_byte Failed before = before

-- how a character is taken
abbrev pub taking_code : Result (Unit {0}) LineFault → ℤ
taking_code (Ok _) = gt_ok
taking_code (Err fault) = line_code fault

-- a turn of the terminal, and a character of the card
abbrev pub TurnsTo : ℕ → ℕ → ExchangeOf → ℤ → ExchangeOf → Type 0
TurnsTo before byte old code new = (code ≡ turn_code (exchange_turn old))
    × (byte ≡ turn_byte (exchange_turn old) before) × IsTurn old (exchange_turn old) new

abbrev pub TakesByte : ℕ → ExchangeOf → ℤ → ExchangeOf → Type 0
TakesByte byte old code new = (taken : Result (Unit {0}) LineFault) × (code ≡ taking_code taken)
    × IsTaking old byte taken new

-- The answer of an exchange is written. Without one, nothing changes.
abbrev pub TellsEnd : Option (StatusWord × List ℕ) → ℕ → List ℕ → ℕ → ℤ → ℕ → List ℕ → ℕ → Type 0
TellsEnd None status room len code status' room' len' =
    (code ≡ gt_state) × (status' ≡ status) × (room' ≡ room) × (len' ≡ len)
TellsEnd (Some answer) status room len code status' room' len' =
    GoesOut answer.0 answer.1 room code status' room' len'

-- the answer of an exchange that goes by TPDUs or by whole commands
abbrev pub TellsAnswerOf : ExchangeSide → ℕ → List ℕ → ℕ → ℤ → ℕ → List ℕ → ℕ → Type 0
TellsAnswerOf side status room len code status' room' len' =
    (answer : Option (StatusWord × List ℕ))
    × (side.apdus.leads ≡ false → IsAnswer side.exchange answer)
    × (side.apdus.leads ≡ true → IsOperationAnswer side.apdus.terminal.operation answer)
    × TellsEnd answer status room len code status' room' len'

-- the next whole TPDU, unless the exchange goes by whole commands
pub record TellsTpduOf (side : ExchangeSide) (room : List ℕ) (len most : ℕ) (code : ℤ)
    (room' : List ℕ) (len' most' : ℕ) : Type 0 where
  pub refused : side.apdus.leads ≡ true
      → (code ≡ gt_state) × (room' ≡ room) × (len' ≡ len) × (most' ≡ most)
  pub told : side.apdus.leads ≡ false
      → TellsTpdu (due_by side.exchange.host) room len most code room' len' most'
