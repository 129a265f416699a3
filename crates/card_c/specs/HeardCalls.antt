-- How a session records characters, and what it writes of those of its last operation.
use Rattle.std.specs.Prelude.{◌≡◌, ◌⊎◌, ℕ, ℤ, List, ◌++◌, drop, length, map, ◌≤◌, ◌<◌, true, false}
use Rattle.t0_core.specs.declared.end.End.{End}
use Rattle.t0_core.specs.declared.end.End.TheVariants.{Terminal, Card}
use Rattle.t0_core.specs.Character.{Character}
use Rattle.t0_core.specs.Watch.{Hearing}
use Rattle.card_c.specs.declared.card_side.CardSide.{CardSide}
use Rattle.card_c.specs.declared.card_side.CardSide.TheVariants.{Joined}
use Rattle.card_c.specs.declared.session_side.SessionSide.{SessionSide}
use Rattle.card_c.specs.declared.character_record.CharacterRecord.{CharacterRecord}
use Rattle.card_c.specs.Codes.{gt_ok, gt_state, gt_memory, gt_buffer}
use Rattle.card_c.specs.SessionCalls.{beginning}

-- The session listens, and has recorded nothing yet; the rest stays.
pub record IsHeard (old new : SessionSide) : Type 0 where
  pub session_is : new.session ≡ old.session
  pub plans_are : new.plans ≡ old.plans
  pub answer_is : new.answer ≡ old.answer
  pub listens_is : new.listens ≡ true
  pub heard_is : new.heard ≡ beginning true

abbrev pub Listens : CardSide → ℤ → CardSide → Type 0
Listens (Joined session) code new =
    (next : SessionSide) × (code ≡ gt_ok) × (new ≡ Joined next) × IsHeard session next
Listens side code new = (code ≡ gt_state) × (new ≡ side)

-- an end as C sees it
abbrev pub end_number : End → ℕ
end_number Terminal = 0
end_number Card = 1

-- a character as C sees it
abbrev pub character_record : Character → CharacterRecord
character_record c = record { from = end_number c.0; byte = c.1 }

-- If memory ran out and some were lost, nothing is written. Otherwise their number is, and all of
-- them if they fit.
abbrev pub TellsHearing : Hearing → List CharacterRecord → ℕ → List CharacterRecord → ℕ → ℤ → Type 0
TellsHearing hearing room count room' count' code =
    ((hearing.lost ≡ true) × (code ≡ gt_memory) × (room' ≡ room) × (count' ≡ count))
    ⊎ ((hearing.lost ≡ false) × (count' ≡ length hearing.heard)
    × (((length hearing.heard ≤ length room) × (code ≡ gt_ok)
    × (room' ≡ map character_record hearing.heard ++ drop (length hearing.heard) room))
    ⊎ ((length room < length hearing.heard) × (code ≡ gt_buffer) × (room' ≡ room))))

-- the characters of the session's last operation, if it listens
abbrev pub TellsHeard : List CharacterRecord → ℕ → List CharacterRecord → ℕ → CardSide → ℤ → Type 0
TellsHeard room count room' count' (Joined session) code =
    ((session.listens ≡ false) × (code ≡ gt_state) × (room' ≡ room) × (count' ≡ count))
    ⊎ ((session.listens ≡ true) × TellsHearing session.heard room count room' count' code)
TellsHeard room count room' count' side code = (code ≡ gt_state) × (room' ≡ room) × (count' ≡ count)
