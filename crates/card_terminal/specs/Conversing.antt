-- A terminal and a card that exchange characters, under a list of plans.
use Rattle.std.specs.Prelude.{◌≡◌, ℕ, ◌+◌, ◌-◌, ◌*◌, ◌<◌, List, [], ◌∷◌, ◌++◌, length, take, drop, Option, Bool, true, false, ◌⊎◌, if◌then◌else◌}
use Rattle.std.specs.List.{AllByRecursion, flat_map}
use Rattle.apdu_core.specs.CommandBytes.{Command}
use Rattle.t0_core.specs.declared.host_end.HostTurn.{HostTurn}
use Rattle.t0_core.specs.declared.host_end.HostTurn.TheVariants.{Sends, Listens, Done, Failed}
use Rattle.t0_core.specs.declared.end.End.TheVariants.{Card}
use Rattle.t0_core.specs.declared.line_fault.LineFault.{LineFault}
use Rattle.t0_core.specs.declared.line_fault.LineFault.TheVariants.{TooLong, Stalled}
use Rattle.t0_core.specs.Dialogue.{Dialogue, characters, IsDialogue}
use Rattle.t0_core.specs.Plan.{Course, Cursor, plain, plan_kept, FollowInTurn}
use Rattle.t0_core.specs.Meaning.{Tpdu, Prepared, Runs, received}
use Rattle.t0_core.specs.Front.{Front, GoesOn, front_characters, brought}
use Rattle.t0_core.specs.Watch.{Hearing, Hears}
use Rattle.t0_core.specs.CardSide.{Stage, Taking_header, Refusing, Serving, Ending, StandsAt, IsOnPlan, still_to_go}
use Rattle.exchange_core.specs.Gathered.{UnitOf, dialogues_of}
use Rattle.card_terminal.specs.Talk.{HaveCuts}
use Rattle.exchange_core.specs.ExchangeSide.{ExchangeOf, UnderWay, Stall, so_far, exchange_turn, response_limit}

-- the plan of the next TPDU: the first of the list, or one without steps if the list is empty
abbrev pub next_plan : List Course → Course
next_plan [] = plain
next_plan (p ∷ plans) = p

-- a point of a talk: the state of the card, the plans that are left, and what a watch has heard
pub record Point (State : Type 0) : Type 0 where
  pub standing : State
  pub plans : List Course
  pub hearing : Hearing

abbrev pub point : {State : Type 0} → State → List Course → Hearing → Point State
point standing plans hearing = record { standing = standing; plans = plans; hearing = hearing }

-- These dialogues lead from one point to another. They follow the plans, whose cuts are 1 to 256;
-- they are a run of the card's meaning; the watch hears them. Each takes one plan.
pub record HaveGone {State : Type 0} (Does : State → ℕ → Tpdu → State → Type 0)
    (from : Point State) (ds : List Dialogue) (to : Point State) : Type 0 where
  pub are_dialogues : AllByRecursion IsDialogue ds
  pub follow : FollowInTurn ds from.plans
  pub cuts : HaveCuts (take (length ds) from.plans)
  pub runs : Runs Does from.standing ds from.plans to.standing
  pub used : to.plans ≡ drop (length ds) from.plans
  pub hears : Hears from.hearing (flat_map characters ds) to.hearing

-- the dialogues of an exchange that stalls
pub record HasStalled {State : Type 0} (Does : State → ℕ → Tpdu → State → Type 0)
    (from : Point State) (c : Command) (to : Point State) : Type 0 where
  pub units : List UnitOf
  pub stall : Stall c units
  pub gone : HaveGone Does from (flat_map dialogues_of units) to

-- the dialogues of an exchange, and a front of one more, in which the card has sent more data than
-- there is room for; the plan of that one is taken
pub record HasOverflown {State : Type 0} (Does : State → ℕ → Tpdu → State → Type 0)
    (from : Point State) (c : Command) (to : Point State) : Type 0 where
  pub units : List UnitOf
  pub tried : Option Dialogue
  pub ex : ExchangeOf
  pub before : Front
  pub terminal : UnderWay c ex units tried before
  pub room : ex.gather.limit ≡ response_limit
  pub front : Front
  pub goes : (byte : ℕ) × GoesOn before (Card, byte) front
  pub prepared : Prepared State
  pub stage : Stage
  pub plans : List Course  -- those that were left when the TPDU began
  pub between : Hearing
  pub gone : HaveGone Does from (so_far units tried) (point to.standing plans between)
  pub card : StandsAt Does to.standing prepared stage (next_plan plans).cut front
  pub on_plan : IsOnPlan stage (next_plan plans) front
  pub taken : to.plans ≡ drop 1 plans
  pub too_many : response_limit < length (flat_map received (so_far units tried) ++ brought front)
  pub hears : Hears between (front_characters front) to.hearing

-- the only faults that a card causes
abbrev pub IsCaused : {State : Type 0} → (State → ℕ → Tpdu → State → Type 0) → Point State
    → Command → Point State → LineFault → Type 0
IsCaused Does from c to fault =
    ((fault ≡ Stalled) × HasStalled Does from c to)
    ⊎ ((fault ≡ TooLong) × HasOverflown Does from c to)

-- A number that decreases with each character (`characters_left`): those still to pass in this
-- TPDU (`here`), and in all that may follow. For the proof: a loop's measure.
abbrev pub here : Stage → Cursor → ℕ
here (Taking_header bytes) cursor = still_to_go (Taking_header bytes) plain
here (Refusing header p3 status done) cursor = still_to_go (Refusing header p3 status done)
    (plan_kept cursor)
here (Serving s came) cursor = still_to_go (Serving s came) (plan_kept cursor)
here (Ending status) cursor = still_to_go (Ending status) (plan_kept cursor)

abbrev pub steps_in : List Course → ℕ
steps_in [] = 0
steps_in (p ∷ plans) = length p.steps + steps_in plans

abbrev pub is_done : HostTurn → Bool
is_done (Sends byte) = false
is_done Listens = false
is_done (Done status) = true
is_done Failed = true

-- the most TPDUs of an exchange, whose room is then full
abbrev pub most_tpdus : ℕ
most_tpdus = 2 * (response_limit + 2)

abbrev pub characters_left : ExchangeOf → Stage → Cursor → ℕ
characters_left ex stage cursor =
    if is_done (exchange_turn ex) then 0 else 1 + 1000 * (most_tpdus - ex.attempt.number) +
    steps_in cursor.rest + here stage cursor
