-- The card's end of the line: its progress, and the fronts of dialogues at which it is.
use Rattle.std.specs.Prelude.{◌≡◌, ℕ, ◌+◌, ◌-◌, ◌<◌, ◌≤◌, List, [], ◌∷◌, ◌++◌, length, take, drop, true, false, nat_lt, ◌==◌, ◌&&◌, Bool, ◌⊎◌, if◌then◌else◌, Option, Some, None}
use Rattle.std.specs.List.{AllByRecursion}
use Rattle.apdu_core.specs.declared.header.Header.{Header}
use Rattle.apdu_core.specs.HeaderBytes.{header_bytes, ins_is_valid}
use Rattle.apdu_core.specs.StatusWord.{StatusWord, count}
use Rattle.t0_core.specs.declared.plan.Step.{Step}
use Rattle.t0_core.specs.declared.plan.Step.TheVariants.{Null, One, All}
use Rattle.t0_core.specs.declared.direction.Direction.{Direction}
use Rattle.t0_core.specs.declared.direction.Direction.TheVariants.{ToCard, FromCard}
use Rattle.t0_core.specs.declared.end.End.TheVariants.{Card}
use Rattle.t0_core.specs.declared.service.Service.{Service}
use Rattle.t0_core.specs.Dialogue.{Body, Dialogue, foreseen, moves, procedure_byte, to_move, IsDialogue}
use Rattle.t0_core.specs.Plan.{Course, segments_of, Follows}
use Rattle.t0_core.specs.Meaning.{Tpdu, tpdu_of, Ask, Prepared, Decided, Decides, IsReceiving, IsSending, refused}
use Rattle.t0_core.specs.Front.{Front, In_header, In_body, After_first, header_only, GoesOn, Ends}

-- the state of a card's end in a TPDU 20~ characters of the header, at most five
pub data Stage : Type 0 where
  Taking_header : (bytes : List ℕ) → Stage  -- characters of the header, at most five
  -- SW1 of a refused header follows, after NULLs; the number of steps done
  Refusing : (header : Header) (p3 : ℕ) (status : StatusWord) (done : ℕ) → Stage
  -- data move; those received from the terminal 25~ SW1 was sent
  Serving : (service : Service) (came : List ℕ) → Stage
  Ending : (status : StatusWord) → Stage  -- SW1 is handed out

pub record EndOf (C : Type 0) : Type 0 where
  pub card : C
  pub stage : Stage

-- the number of data characters in the TPDU
abbrev pub whole_of : Service → ℕ
whole_of s = foreseen s.direction s.p3

abbrev pub comes_from_terminal : Direction → Bool
comes_from_terminal ToCard = true
comes_from_terminal FromCard = false

-- the terminal sends next: its header is incomplete, or its data follow
abbrev pub listens : Stage → Bool
listens (Taking_header bytes) = nat_lt (length bytes) 5
listens (Refusing header p3 status done) = false
listens (Serving s came) = comes_from_terminal s.direction && nat_lt s.moved s.until
listens (Ending status) = false

-- the card sends its first character of this TPDU next, and takes a plan with it
abbrev pub takes_plan : Stage → Bool
takes_plan (Taking_header bytes) = length bytes == 5
takes_plan (Refusing header p3 status done) = false
takes_plan (Serving s came) = false
takes_plan (Ending status) = false

abbrev pub left_to_send : Direction → ℕ → ℕ → ℕ
left_to_send ToCard moved until = 0
left_to_send FromCard moved until = until - moved

-- how many data characters the card sends next, before a procedure byte or SW1
abbrev pub due_in : Stage → ℕ
due_in (Taking_header bytes) = 0
due_in (Refusing header p3 status done) = 0
due_in (Serving s came) = left_to_send s.direction s.moved s.until
due_in (Ending status) = 0

-- the terminal's data, once all of them came
abbrev pub whole_data : Stage → Option (List ℕ)
whole_data (Taking_header bytes) = None
whole_data (Refusing header p3 status done) = None
whole_data (Serving s came) =
    if comes_from_terminal s.direction && (s.moved == s.p3) then Some came else None
whole_data (Ending status) = None

abbrev pub one_moved : Service → Service
one_moved s = record {
  header = s.header;
  p3 = s.p3;
  direction = s.direction;
  moved =
      s.moved + 1;
  until = s.until;
  done = s.done;
}

-- the header or the data with one more character
abbrev pub with_character : Stage → ℕ → Stage
with_character (Taking_header bytes) byte = Taking_header (bytes ++ byte ∷ [])
with_character (Refusing header p3 status done) byte = Refusing header p3 status done
with_character (Serving s came) byte = Serving (one_moved s) (came ++ byte ∷ [])
with_character (Ending status) byte = Ending status

-- A measure that falls with each character of a TPDU under one plan. It counts the header
-- characters left, the steps and the data left, one more `All` if data will be left without a step,
-- and the status.
abbrev pub still_to_go : Stage → Course → ℕ
still_to_go (Taking_header bytes) plan = (5 - length bytes) + length plan.steps + 300
still_to_go (Refusing header p3 status done) plan = (length plan.steps - done) + 2
still_to_go (Serving s came) plan =
    (length plan.steps - s.done) + (whole_of s - s.moved)
    + (if nat_lt s.until (whole_of s) then 1 else 0) + 2
still_to_go (Ending status) plan = 1

-- the characters of a whole header
abbrev pub begins_with : Header → ℕ → List ℕ
begins_with header p3 = header_bytes header ++ p3 ∷ []

abbrev pub ask_of : Service → ℕ → Ask
ask_of s cut = record { header = s.header; p3 = s.p3; cut = cut }

-- a segment moves data, or is a NULL
abbrev pub Starts : Step → ℕ → Type 0
Starts Null remain = Unit {0}
Starts One remain = 0 < remain
Starts All remain = 0 < remain

-- no segment starts without data to move, except NULLs, if this number of characters is to move
abbrev pub IsFrugal : List Step → ℕ → Type 0
IsFrugal [] remain = Unit {0}
IsFrugal (s ∷ segments) remain = Starts s remain × IsFrugal segments (remain - moves s remain)

-- after a refused header only NULLs follow, and no data
pub record IsRefused {State : Type 0} (Does : State → ℕ → Tpdu → State → Type 0) (standing : State)
    (prepared : Prepared State)
    (header : Header) (p3 : ℕ) (status : StatusWord) (cut : ℕ) (b : Body) : Type 0 where
  pub header_is : b.header ≡ header
  pub p3_is : b.p3 ≡ p3
  pub no_data : b.moved ≡ []
  pub nulls : AllByRecursion (λ s. s ≡ Null) b.segments
  pub decides : Decides Does standing cut
      (refused (record { header = header; p3 = p3; cut = cut }) status) prepared

-- the moved data are those of the terminal, or the first of those that the card has ready
abbrev pub ServesBy : {State : Type 0} → Prepared State → Direction → Service → List ℕ → ℕ → List ℕ
    → Type 0
ServesBy prepared ToCard s came cut moved =
    (moved ≡ came) × IsReceiving prepared (λ ask. ask ≡ ask_of s cut)
ServesBy prepared FromCard s came cut moved =
    IsSending prepared (λ ask bytes. (ask ≡ ask_of s cut) × (length bytes ≡ count s.p3)
    × (moved ≡ take s.moved bytes))

-- after an accepted header segments and data follow
pub record IsServed {State : Type 0} (prepared : Prepared State) (s : Service) (came : List ℕ)
    (cut : ℕ) (b : Body) : Type 0 where
  pub header_is : b.header ≡ s.header
  pub p3_is : b.p3 ≡ s.p3
  pub direction_is : b.direction ≡ s.direction
  pub moved_is : length b.moved ≡ s.moved
  pub until_is : to_move b ≡ s.until
  pub begun : s.moved ≤ s.until
  pub within : s.until ≤ whole_of s
  pub frugal : IsFrugal b.segments (whole_of s)
  pub valid : ins_is_valid s.header.ins ≡ true
  pub serves : ServesBy prepared s.direction s came cut b.moved

-- a dialogue follows the plan made of its own segments
abbrev pub FollowsItself : Dialogue → ℕ → Type 0
FollowsItself d cut = Follows d (record { steps = d.body.segments; cut = cut })

-- The end is at this front of a dialogue, under this cut, over a card in this state.
abbrev pub StandsAt : {State : Type 0} → (State → ℕ → Tpdu → State → Type 0) → State
    → Prepared State → Stage → ℕ → Front → Type 0
StandsAt Does standing prepared (Taking_header bytes) cut (In_header front) =
    (front ≡ bytes) × (length bytes < 5)
StandsAt Does standing prepared (Taking_header bytes) cut (In_body b) =
    (bytes ≡ begins_with b.header b.p3) × (b ≡ header_only b.header b.p3 b.direction)
StandsAt Does standing prepared (Taking_header bytes) cut (After_first b sw1) = ⊥
StandsAt Does standing prepared (Refusing header p3 status done) cut (In_body b) =
    IsRefused Does standing prepared header p3 status cut b
StandsAt Does standing prepared (Refusing header p3 status done) cut (In_header front) = ⊥
StandsAt Does standing prepared (Refusing header p3 status done) cut (After_first b sw1) = ⊥
StandsAt Does standing prepared (Serving s came) cut (In_body b) = IsServed prepared s came cut b
StandsAt Does standing prepared (Serving s came) cut (In_header front) = ⊥
StandsAt Does standing prepared (Serving s came) cut (After_first b sw1) = ⊥
StandsAt {State = State} Does standing prepared (Ending status) cut (After_first b sw1) =
    (status.0 ≡ sw1) × (next : State) × (prepared ≡ Decided next)
    × Does standing cut (tpdu_of (record { body = b; status = status })) next
    × IsDialogue (record { body = b; status = status })
    × FollowsItself (record { body = b; status = status }) cut
StandsAt Does standing prepared (Ending status) cut (In_header front) = ⊥
StandsAt Does standing prepared (Ending status) cut (In_body b) = ⊥

-- the segments so far are those of the steps done; the segments of the other steps are still to
-- come
abbrev pub AreOnPlan : List Step → List Step → ℕ → ℕ → ℕ → Type 0
AreOnPlan segments steps whole until done =
    segments_of steps whole ≡ segments ++ segments_of (drop done steps) (whole - until)

abbrev pub IsOnPlan : Stage → Course → Front → Type 0
IsOnPlan (Taking_header bytes) plan front = Unit {0}
IsOnPlan (Refusing header p3 status done) plan (In_body b) =
    AreOnPlan b.segments plan.steps 0 0 done
IsOnPlan (Refusing header p3 status done) plan (In_header front) = ⊥
IsOnPlan (Refusing header p3 status done) plan (After_first b sw1) = ⊥
IsOnPlan (Serving s came) plan (In_body b) =
    AreOnPlan b.segments plan.steps (whole_of s) s.until s.done
IsOnPlan (Serving s came) plan (In_header front) = ⊥
IsOnPlan (Serving s came) plan (After_first b sw1) = ⊥
IsOnPlan (Ending status) plan (After_first b sw1) =
    Follows (record { body = b; status = status }) plan
IsOnPlan (Ending status) plan (In_header front) = ⊥
IsOnPlan (Ending status) plan (In_body b) = ⊥

-- the segments still to come under a plan: those of its steps after the ones done
abbrev pub to_come : Stage → Course → List Step
to_come (Taking_header bytes) plan = []
to_come (Refusing header p3 status done) plan = segments_of (drop done plan.steps) 0
to_come (Serving s came) plan = segments_of (drop s.done plan.steps) (whole_of s - s.until)
to_come (Ending status) plan = []

-- between segments the card starts the next one that is still to come, or else its status
abbrev pub BeginsNext : ℕ → Stage → Course → ℕ → Stage → Type 0
BeginsNext ins before plan byte stage =
    ((step : Step) × (to_come before plan ≡ step ∷ to_come stage plan)
    × (byte ≡ procedure_byte ins step))
    ⊎ ((to_come before plan ≡ []) × (status : StatusWord) × (byte ≡ status.0)
    × (stage ≡ Ending status))

-- The end counts the steps done, and continues from that count in any plan, even one that the TPDU
-- did not start with.
abbrev pub GoesByCount : Stage → Course → ℕ → Stage → Type 0
GoesByCount (Taking_header bytes) plan byte stage = Unit {0}
GoesByCount (Refusing header p3 status done) plan byte stage =
    BeginsNext header.ins (Refusing header p3 status done) plan byte stage
GoesByCount (Serving s came) plan byte stage =
    ((s.moved < s.until) × (to_come stage plan ≡ to_come (Serving s came) plan))
    ⊎ ((s.until ≤ s.moved) × BeginsNext s.header.ins (Serving s came) plan byte stage)
GoesByCount (Ending status) plan byte stage = Unit {0}

-- data move only under headers for which the card may give this verdict
abbrev pub PermitsData : (Header → Type 0) → (Header → Type 0) → Header → Direction → Type 0
PermitsData MayReceive MaySend header ToCard = MayReceive header
PermitsData MayReceive MaySend header FromCard = MaySend header

abbrev pub IsPermitted : (Header → Type 0) → (Header → Type 0) → Header → Stage → Type 0
IsPermitted MayReceive MaySend header (Taking_header bytes) = Unit {0}
IsPermitted MayReceive MaySend header (Refusing h p3 status done) = Unit {0}
IsPermitted MayReceive MaySend header (Serving s came) =
    PermitsData MayReceive MaySend header s.direction
IsPermitted MayReceive MaySend header (Ending status) = Unit {0}

-- the direction of the data, if any are to move, is that of the front
abbrev pub SuitsFront : Stage → Front → Type 0
SuitsFront (Taking_header bytes) front = Unit {0}
SuitsFront (Refusing header p3 status done) front = Unit {0}
SuitsFront (Serving s came) (In_header bytes) = Unit {0}
SuitsFront (Serving s came) (In_body b) = b.direction ≡ s.direction
SuitsFront (Serving s came) (After_first b sw1) = Unit {0}
SuitsFront (Ending status) front = Unit {0}

-- With a character of the card the dialogue continues, and the card's state is unchanged. Or the
-- dialogue ends, and is a step of the card's own meaning. If it was on the plan, it stays on it,
-- and at its end has followed it.
abbrev pub Advances : {State : Type 0} → (State → ℕ → Tpdu → State → Type 0) → ℕ → Course → Stage
    → Front → ℕ → State → State → Prepared State → Stage → Type 0
Advances Does cut plan before front byte old standing prepared stage =
    ((new : Front) × GoesOn front (Card, byte) new × StandsAt Does standing prepared stage cut new
    × (standing ≡ old)
    × (IsOnPlan before plan front → IsOnPlan stage plan new))
    ⊎ ((d : Dialogue) × Ends front (Card, byte) d × IsDialogue d × FollowsItself d cut
    × Does old cut (tpdu_of d) standing
    × (stage ≡ Taking_header []) × (IsOnPlan before plan front → Follows d plan))
