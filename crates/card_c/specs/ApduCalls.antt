-- What the exports for whole commands return and change. A refusal changes nothing.
use Rattle.std.specs.Prelude.{◌≡◌, ◌⊎◌, ℕ, ℤ, ◌<◌, List, ◌++◌, drop, length, Option, Some, None, Result, Ok, Err, Bool, true, if◌then◌else◌}
use Rattle.apdu_core.specs.StatusWord.{StatusWord}
use Rattle.apdu_core.specs.CommandBytes.{Command, command_bytes}
use Rattle.t0_core.specs.declared.answer_fault.AnswerFault.{AnswerFault}
use Rattle.t0_core.specs.HostAnswer.{fails_with}
use Rattle.card_terminal.specs.declared.unsent.Unsent.{Unsent}
use Rattle.apdu_terminal.specs.Apdus.{may_bring}
use Rattle.apdu_terminal.specs.ApduOperations.{ApduOperationOf, Begins, IsTakingResponse, KeepsLimit, operation_due}
use Rattle.card_c.specs.declared.apdu_side.ApduSide.{ApduSide}
use Rattle.card_c.specs.Codes.{gt_ok, gt_buffer, gt_memory, gt_no_status, gt_not_due, gt_state}
use Rattle.card_c.specs.TpduCalls.{AreAnswer, answered_code}

-- The next command is written, and the most bytes of its response. Without one, or if it does not
-- fit, nothing changes.
abbrev pub TellsApdu : Option Command → List ℕ → ℕ → ℕ → ℤ → List ℕ → ℕ → ℕ → Type 0
TellsApdu None room len most code room' len' most' =
    (code ≡ gt_not_due) × (room' ≡ room) × (len' ≡ len) × (most' ≡ most)
TellsApdu (Some c) room len most code room' len' most' =
    ((length room < length (command_bytes c)) × (code ≡ gt_buffer) × (room' ≡ room)
    × (len' ≡ len) × (most' ≡ most))
    ⊎ ((code ≡ gt_ok)
    × (room' ≡ command_bytes c ++ drop (length (command_bytes c)) room)
    × (len' ≡ length (command_bytes c)) × (most' ≡ may_bring c.le))

abbrev pub TellsDue : List ℕ → ℕ → ℕ → List ℕ → ℕ → ℕ → ApduSide → ℤ → ApduSide → Type 0
TellsDue room len most room' len' most' old code new =
    TellsApdu (operation_due old.terminal.operation) room len most code room' len' most'
    × (new ≡ old)

-- the operation goes by whole commands from the first response that is taken or ends it
abbrev pub leads_after : Bool → Result (Unit {0}) AnswerFault → Bool
leads_after leads (Ok _) = true
leads_after leads (Err fault) = if fails_with fault then true else leads

-- These bytes are taken as the response, if they end in a status.
abbrev pub TakesResponse : List ℕ → ApduSide → ℤ → ApduSide → Type 0
TakesResponse response old code new =
    (((bytes : List ℕ) (status : StatusWord) → AreAnswer response bytes status → ⊥)
    × (code ≡ gt_no_status) × (new ≡ old))
    ⊎ ((bytes : List ℕ) × (status : StatusWord) × AreAnswer response bytes status
    × (taken : Result (Unit {0}) AnswerFault) × (code ≡ answered_code taken)
    × IsTakingResponse old.terminal.operation bytes status taken new.terminal.operation
    × KeepsLimit old.terminal new.terminal × (new.leads ≡ leads_after old.leads taken))

-- what is unsent has begun by whole commands
pub record HasOpened (u : Unsent) (old new : ApduSide) : Type 0 where
  pub operation : ApduOperationOf
  pub is : new.terminal.operation ≡ Some operation
  pub begins : Begins u operation
  pub limit : KeepsLimit old.terminal new.terminal
  pub leads : new.leads ≡ old.leads

-- or it is refused, with this code
abbrev pub IsOpened : Option Unsent → ApduSide → Option ℤ → ApduSide → Type 0
IsOpened None old None new = ⊥
IsOpened (Some u) old None new = HasOpened u old new
IsOpened None old (Some code) new = (code ≡ gt_state) × (new ≡ old)
IsOpened (Some u) old (Some code) new = (code ≡ gt_memory) × (new ≡ old)

-- A call by whole commands on an operation that does not go by them yet. The call is refused if
-- nothing is unsent: no operation has begun, or some of it was sent. Otherwise the operation begins
-- by whole commands, and then the call does this.
abbrev pub Opens : (ApduSide → ℤ → ApduSide → Type 0) → Option Unsent → ApduSide → ℤ → ApduSide
    → Type 0
Opens Does None old code new = (code ≡ gt_state) × (new ≡ old)
Opens Does (Some u) old code new = ((code ≡ gt_memory) × (new ≡ old))
    ⊎ ((opened : ApduSide) × HasOpened u old opened × Does opened code new)
