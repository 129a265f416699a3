-- What the exports for whole TPDUs return and write.
use Rattle.std.specs.Prelude.{◌≡◌, ◌⊎◌, ℕ, ℤ, ◌<◌, List, [], ◌∷◌, ◌++◌, drop, length, Option, Some, None, Result, Ok, Err}
use Rattle.apdu_core.specs.StatusWord.{StatusWord, IsStatusWord}
use Rattle.t0_core.specs.declared.answer_fault.AnswerFault.{AnswerFault}
use Rattle.t0_core.specs.TpduBytes.{Asked, tpdu_bytes}
use Rattle.exchange_core.specs.ExchangeSide.{ExchangeOf}
use Rattle.exchange_core.specs.ExchangeSteps.{IsAnswering}
use Rattle.card_c.specs.Codes.{gt_ok, gt_buffer, gt_not_due, gt_no_status, answer_code}

-- The next TPDU is written, and the most bytes of its answer. Without one, or if it does not fit,
-- nothing changes.
abbrev pub TellsTpdu : Option Asked → List ℕ → ℕ → ℕ → ℤ → List ℕ → ℕ → ℕ → Type 0
TellsTpdu None room len most code room' len' most' =
    (code ≡ gt_not_due) × (room' ≡ room) × (len' ≡ len) × (most' ≡ most)
TellsTpdu (Some asked) room len most code room' len' most' =
    ((length room < length (tpdu_bytes asked)) × (code ≡ gt_buffer) × (room' ≡ room)
    × (len' ≡ len) × (most' ≡ most))
    ⊎ ((code ≡ gt_ok)
    × (room' ≡ tpdu_bytes asked ++ drop (length (tpdu_bytes asked)) room)
    × (len' ≡ length (tpdu_bytes asked)) × (most' ≡ asked.may_come))

-- an answer: data, then a status
abbrev pub AreAnswer : List ℕ → List ℕ → StatusWord → Type 0
AreAnswer answer bytes status =
    (answer ≡ bytes ++ status.0 ∷ status.1 ∷ []) × IsStatusWord status

-- how it is taken
abbrev pub answered_code : Result (Unit {0}) AnswerFault → ℤ
answered_code (Ok _) = gt_ok
answered_code (Err fault) = answer_code fault

-- These bytes are taken as the answer to the next TPDU, if they end in a status.
abbrev pub IsAnswered : List ℕ → ExchangeOf → ℤ → ExchangeOf → Type 0
IsAnswered answer old code new =
    (((bytes : List ℕ) (status : StatusWord) → AreAnswer answer bytes status → ⊥)
    × (code ≡ gt_no_status) × (new ≡ old))
    ⊎ ((bytes : List ℕ) × (status : StatusWord) × AreAnswer answer bytes status
    × (taken : Result (Unit {0}) AnswerFault) × (code ≡ answered_code taken)
    × IsAnswering old bytes status taken new)
