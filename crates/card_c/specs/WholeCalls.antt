-- What the calls that carry out a whole TPDU or command write, and when they refuse one.
use Rattle.std.specs.Prelude.{◌≡◌, ◌⊎◌, ℕ, ℤ, ◌+◌, ◌<◌, ◌≤◌, List, [], ◌∷◌, ◌++◌, length, drop, true, false, None, Some, Result, Ok, Err}
use Rattle.apdu_core.specs.CommandBytes.{Command}
use Rattle.apdu_core.specs.StatusWord.{StatusWord}
use Rattle.t0_core.specs.declared.tpdu_card.TpduCard.{Ghosts}
use Rattle.t0_core.specs.declared.tpdu_fault.TpduFault.{TpduFault}
use Rattle.t0_core.specs.CardSide.{EndOf, Stage}
use Rattle.t0_core.specs.CardTpdu.{HasGone, rests}
use Rattle.t0_core.specs.Plan.{Cursor}
use Rattle.t0_core.specs.Room.{Room}
use Rattle.t0_core.specs.TpduBytes.{Asked, asked_in}
use Rattle.apdu_terminal.specs.Apdus.{may_bring}
use Rattle.card_c.specs.Codes.{gt_ok, gt_state, gt_memory, gt_buffer, gt_no_tpdu, tpdu_code}

-- The answer is written: data, then the status. With a fault nothing is written.
abbrev pub TellsAnswer : Result StatusWord TpduFault → List ℕ → List ℕ → ℕ → ℤ → List ℕ → ℕ
    → Type 0
TellsAnswer (Ok status) bytes room len code room' len' =
    (code ≡ gt_ok) × (len' ≡ length bytes + 2)
    × (room' ≡ bytes ++ status.0 ∷ status.1 ∷ drop (length bytes + 2) room)
TellsAnswer (Err fault) bytes room len code room' len' =
    (code ≡ tpdu_code fault) × (len' ≡ len) × (room' ≡ room)

-- nothing is written, and this is the code
abbrev pub TellsNothing : ℤ → List ℕ → ℕ → ℤ → List ℕ → ℕ → Type 0
TellsNothing why room len code room' len' = (code ≡ why) × (room' ≡ room) × (len' ≡ len)

-- the TPDU is carried out, with room for all data that it may bring
abbrev pub IsCarriedOut : {C : Type 0} (card : Ghosts C) → List ℕ → EndOf C → Cursor → Room
    → List ℕ → ℕ → ℤ → EndOf C → Cursor → List ℕ → ℕ → Type 0
IsCarriedOut card tpdu end plans gather room len code end' plans' room' len' =
    (asked : Asked) × (asked_in tpdu ≡ Some asked)
    × (result : Result StatusWord TpduFault) × (gathered : Room)
    × HasGone card asked end plans gather result end' plans' gathered
    × TellsAnswer result gathered.bytes room len code room' len'

-- the most bytes of an answer: data and status
abbrev pub longest_answer : Asked → ℕ
longest_answer asked = asked.may_come + 2

-- why nothing is carried out: a TPDU has begun; the bytes are not a TPDU; the array is too small
-- for its longest answer; memory ran out
abbrev pub IsRefusal : List ℕ → Stage → List ℕ → ℤ → Type 0
IsRefusal tpdu stage room code =
    ((rests stage ≡ false) × (code ≡ gt_state))
    ⊎ ((rests stage ≡ true) × (asked_in tpdu ≡ None) × (code ≡ gt_no_tpdu))
    ⊎ ((asked : Asked) × (rests stage ≡ true) × (asked_in tpdu ≡ Some asked)
    × (length room < longest_answer asked) × (code ≡ gt_buffer))
    ⊎ ((asked : Asked) × (rests stage ≡ true) × (asked_in tpdu ≡ Some asked)
    × (longest_answer asked ≤ length room) × (code ≡ gt_memory))

-- the room for data, before the status
abbrev pub data_room : Asked → Room
data_room asked = record { bytes = []; limit = asked.may_come }

-- 6700, wrong length
abbrev pub wrong_length : StatusWord
wrong_length = (0x67, 0x00)

-- the response is 6700, if that fits
abbrev pub RefusesLength : List ℕ → ℕ → ℤ → List ℕ → ℕ → Type 0
RefusesLength room len code room' len' =
    ((length room < 2) × TellsNothing gt_buffer room len code room' len')
    ⊎ ((2 ≤ length room) × TellsAnswer (Ok wrong_length) [] room len code room' len')

-- the most bytes of a response: what Le asks for, and the status
abbrev pub longest_response : Command → ℕ
longest_response c = may_bring c.le + 2
