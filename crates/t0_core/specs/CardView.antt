-- How contracts see the fields of a card's end.
use Rattle.std.specs.Prelude.{◌≡◌, ℕ, ◌+◌, ◌-◌, ◌<◌, ◌≤◌, min, ◌⊎◌, List, [], ◌∷◌, ◌++◌, length, take, drop, replicate, true, Option, Some, None}
use Rattle.apdu_core.specs.HeaderBytes.{ins_is_valid}
use Rattle.apdu_core.specs.StatusWord.{StatusWord, IsStatusWord, count}
use Rattle.t0_core.specs.declared.card_end.Phase.{Phase}
use Rattle.t0_core.specs.declared.card_end.Phase.TheVariants as phase
use Rattle.apdu_core.specs.declared.header.Header.{Header}
use Rattle.t0_core.specs.declared.service.Service.{Service}
use Rattle.t0_core.specs.declared.direction.Direction.{Direction}
use Rattle.t0_core.specs.declared.direction.Direction.TheVariants.{ToCard, FromCard}
use Rattle.t0_core.specs.declared.plan.Step.{Step}
use Rattle.t0_core.specs.declared.plan.Step.TheVariants.{Null, All}
use Rattle.t0_core.specs.Dialogue.{moves}
use Rattle.t0_core.specs.Plan.{segments_of}
use Rattle.t0_core.specs.Meaning.{Tpdu, Prepared, IsReceiving, IsSending, Decides, taken_with, answered_with}
use Rattle.t0_core.specs.CardContract.{IsDecided}
use Rattle.t0_core.specs.CardSide.{Stage, Taking_header, Refusing, Serving, Ending, Starts, left_to_send, one_moved, whole_of}

abbrev pub stage_of : Phase → List ℕ → Stage
stage_of (phase.Opening bytes taken) came = Taking_header (take taken bytes)
stage_of (phase.Refused header p3 status done) came = Refusing header p3 status done
stage_of (phase.Accepted service) came = Serving service (take service.moved came)
stage_of (phase.SecondStatus status) came = Ending status

-- the phase after a character of the card during a service, which is then in this state; the
-- service ends with SW1
abbrev pub phase_after : Service → Option StatusWord → Phase
phase_after service None = phase.Accepted service
phase_after service (Some status) = phase.SecondStatus status

-- what the card has prepared suits the direction
abbrev pub IsReadyFor : {State : Type 0} → Prepared State → Direction → ℕ → Type 0
IsReadyFor prepared ToCard p3 = IsReceiving prepared (λ ask. p3 ≡ ask.p3)
IsReadyFor prepared FromCard p3 = IsSending prepared (λ ask bytes. length bytes ≡ count p3)

pub record IsInService {State : Type 0} (prepared : Prepared State) (s : Service) : Type 0 where
  pub begun : s.moved ≤ s.until
  pub within : s.until ≤ whole_of s
  pub valid : ins_is_valid s.header.ins ≡ true
  pub small : s.p3 < 256
  pub ready : IsReadyFor prepared s.direction s.p3

-- what the card has prepared suits the phase
abbrev pub Fits : {State : Type 0} → Prepared State → Phase → Type 0
Fits prepared (phase.Opening bytes taken) = (length bytes ≡ 5) × (taken ≤ 5)
Fits prepared (phase.Refused header p3 status done) = IsDecided prepared
Fits prepared (phase.Accepted service) = IsInService prepared service
Fits prepared (phase.SecondStatus status) = IsDecided prepared

-- between TPDUs the end holds no data: those of the last one are overwritten
abbrev pub IsForgotten : Phase → List ℕ → Type 0
IsForgotten (phase.Opening bytes taken) came = came ≡ replicate 255 0
IsForgotten (phase.Refused header p3 status done) came = Unit {0}
IsForgotten (phase.Accepted service) came = Unit {0}
IsForgotten (phase.SecondStatus status) came = Unit {0}

-- the ranges of a phase, apart from the card
abbrev pub IsHeld : Phase → Type 0
IsHeld (phase.Opening bytes taken) = (length bytes ≡ 5) × (taken ≤ 5)
IsHeld (phase.Refused header p3 status done) = Unit {0}
IsHeld (phase.Accepted service) = (service.until ≤ whole_of service) × (service.p3 < 256)
IsHeld (phase.SecondStatus status) = Unit {0}

-- the service after the next step of a plan
pub record IsNext (s : Service) (steps : List Step) (step : Step) (next : Service) : Type 0 where
  pub same : (next.header ≡ s.header) × (next.p3 ≡ s.p3) × (next.direction ≡ s.direction)
      × (next.moved ≡ s.moved)
  pub starts : Starts step (whole_of s - s.until)
  pub until_is : next.until ≡ s.until + moves step (whole_of s - s.until)
  pub segments : segments_of (drop s.done steps) (whole_of s - s.until) ≡ step
      ∷ segments_of (drop next.done steps) (whole_of s - next.until)
  pub counts : ((s.done < next.done) × (next.done ≤ length steps))
      ⊎ ((step ≡ All) × (length steps ≤ next.done))

-- the status that a card gives after all data
abbrev pub GivesStatus : {State : Type 0} → (State → ℕ → Tpdu → State → Type 0) → State
    → Prepared State → Direction → List ℕ → StatusWord → Prepared State → Type 0
GivesStatus Does old before ToCard content status prepared =
    IsReceiving before (λ ask. Decides Does old ask.cut (taken_with ask content status) prepared)
GivesStatus Does old before FromCard content status prepared =
    IsSending before (λ ask bytes. Decides Does old ask.cut (answered_with ask bytes status)
    prepared)

-- the card has judged the header
abbrev pub IsJudged : Phase → Type 0
IsJudged (phase.Opening bytes taken) = ⊥
IsJudged (phase.Refused header p3 status done) = Unit {0}
IsJudged (phase.Accepted service) = Unit {0}
IsJudged (phase.SecondStatus status) = Unit {0}

-- the ranges of a phase after a character of the terminal
abbrev pub IsAfter : Phase → Phase → Type 0
IsAfter (phase.Opening bytes taken) new = IsOpening new where
  IsOpening : Phase → Type 0
  IsOpening (phase.Opening all more) = (length all ≡ 5) × (more ≤ 5)
  IsOpening _ = ⊥
IsAfter (phase.Refused header p3 status done) new = ⊥
IsAfter (phase.Accepted service) new = (service.moved < service.until)
    × (new ≡ phase.Accepted (one_moved service))
IsAfter (phase.SecondStatus status) new = ⊥

-- n more data characters have moved
abbrev pub so_many_moved : Service → ℕ → Service
so_many_moved s n = record s { moved = s.moved + n }

-- the phase after this number of data characters of the card, or all that it sends next
abbrev pub skipped : Phase → ℕ → Phase
skipped (phase.Opening bytes taken) n = phase.Opening bytes taken
skipped (phase.Refused header p3 status done) n = phase.Refused header p3 status done
skipped (phase.Accepted s) n =
    phase.Accepted (so_many_moved s (min n (left_to_send s.direction s.moved s.until)))
skipped (phase.SecondStatus status) n = phase.SecondStatus status

-- the data moved so far are no more than the procedure bytes move
abbrev pub IsBegun : Phase → Type 0
IsBegun (phase.Opening bytes taken) = Unit {0}
IsBegun (phase.Refused header p3 status done) = Unit {0}
IsBegun (phase.Accepted s) = s.moved ≤ s.until
IsBegun (phase.SecondStatus status) = Unit {0}

-- The terminal sent these data characters in one run: none, or some of those that were expected.
abbrev pub IsRun : Phase → List ℕ → List ℕ → Phase → List ℕ → Type 0
IsRun old came bytes new room = ((bytes ≡ []) × (new ≡ old) × (room ≡ came))
    ⊎ ((s : Service) × (old ≡ phase.Accepted s) × (s.direction ≡ ToCard)
    × (s.moved + length bytes ≤ s.until)
    × (new ≡ phase.Accepted (so_many_moved s (length bytes)))
    × (take (s.moved + length bytes) room ≡ take s.moved came ++ bytes))

-- the verdict and its direction stay until the status
abbrev pub KeepsDirection : Stage → Stage → Type 0
KeepsDirection old (Taking_header bytes) = (status : StatusWord) × (old ≡ Ending status)
KeepsDirection old (Refusing header p3 status done) =
    (before : ℕ) × (old ≡ Refusing header p3 status before)
KeepsDirection old (Serving s came) = (service : Service) × (before : List ℕ)
    × (old ≡ Serving service before) × (service.direction ≡ s.direction)
KeepsDirection old (Ending status) = Unit {0}

-- after a refused header a NULL follows, if the plan has one left, or else the status
abbrev pub Refuses : Header → ℕ → StatusWord → ℕ → List Step → Phase → ℕ → Type 0
Refuses header p3 status done steps next byte =
    ((left : ℕ) × (next ≡ phase.Refused header p3 status left) × (byte ≡ 0x60)
    × (segments_of (drop done steps) 0 ≡ Null ∷ segments_of (drop left steps) 0) × (done < left)
    × (left ≤ length steps))
    ⊎ ((next ≡ phase.SecondStatus status) × (byte ≡ status.0) × IsStatusWord status
    × (segments_of (drop done steps) 0 ≡ []))

-- the card has judged the header, and sent nothing since
abbrev pub IsVerdict : Phase → Type 0
IsVerdict (phase.Opening bytes taken) = ⊥
IsVerdict (phase.Refused header p3 status done) = Unit {0}
IsVerdict (phase.Accepted service) = Unit {0}
IsVerdict (phase.SecondStatus status) = ⊥
