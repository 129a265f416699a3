-- What led to the state of a card's end since it was made, or since a reset.
use Rattle.std.specs.Prelude.{◌≡◌, ℕ, List, [], ◌∷◌, ◌++◌, length}
use Rattle.std.specs.List.{AllByRecursion, flat_map}
use Rattle.t0_core.specs.Character.{Character}
use Rattle.t0_core.specs.Dialogue.{Dialogue, characters, IsDialogue}
use Rattle.t0_core.specs.Plan.{Course, IsCut, FollowInTurn}
use Rattle.t0_core.specs.Meaning.{Tpdu, Prepared, Runs}
use Rattle.t0_core.specs.Front.{Front, front_characters, IsFront}
use Rattle.t0_core.specs.CardSide.{Stage, Taking_header, Refusing, Serving, Ending, StandsAt, IsOnPlan}
use Rattle.t0_core.specs.History.{Event, Item, IsPart, IsPartUnder, RunsOver, events_of, passed}

-- The end is at this front, under a cut in range. Some dialogue that follows a plan begins with the
-- front.
pub record IsAt {State : Type 0} (Does : State → ℕ → Tpdu → State → Type 0)
    (standing : State) (prepared : Prepared State) (stage : Stage) (cut : ℕ) (front : Front) : Type
    0 where
  pub is_front : IsFront front
  pub is_part : IsPart (front_characters front)
  pub in_range : IsCut cut
  pub stands : StandsAt Does standing prepared stage cut front

-- These events lead to the state of the end. They are whole dialogues under plans, and resets with
-- the parts that they cut off, which together are a run of the card's own meaning. The front of one
-- more dialogue ends them.
pub record Leads {State : Type 0} (Does : State → ℕ → Tpdu → State → Type 0)
    (after_reset : State → State)
    (first : State) (events : List Event) (standing : State) (prepared : Prepared State)
    (stage : Stage) : Type 0 where
  pub items : List Item
  pub cut : ℕ
  pub front : Front
  pub events_are : events ≡ flat_map events_of items ++ passed (front_characters front)
  pub runs : RunsOver Does after_reset first items standing
  pub at_front : IsAt Does standing prepared stage cut front

-- the plan of a TPDU that the card has begun to answer
abbrev pub under_way : Stage → Course → List Course
under_way (Taking_header bytes) plan = []
under_way (Refusing header p3 status done) plan = plan ∷ []
under_way (Serving s came) plan = plan ∷ []
under_way (Ending status) plan = plan ∷ []

-- the dialogues follow the plans in turn, and are a run of the card's own meaning
pub record AreDone {State : Type 0} (Does : State → ℕ → Tpdu → State → Type 0)
    (first : State) (whole : List Dialogue) (plans : List Course) (standing : State) : Type 0 where
  pub one_each : length plans ≡ length whole
  pub cuts : AllByRecursion (λ p. IsCut p.cut) plans
  pub are_dialogues : AllByRecursion IsDialogue whole
  pub follow : FollowInTurn whole plans
  pub runs : Runs Does first whole plans standing

-- If each TPDU has one cursor throughout: the characters since a reset are whole dialogues that
-- follow the plans taken, in turn, and a front of one more. Some dialogue that follows the plan
-- taken last begins with that front.
pub record LeadsUnder {State : Type 0} (Does : State → ℕ → Tpdu → State → Type 0) (first : State)
    (came : List Character)
    (taken : List Course) (standing : State) (prepared : Prepared State) (stage : Stage) : Type 0
  where
    pub whole : List Dialogue
    pub plans : List Course
    pub plan : Course
    pub front : Front
    pub taken_is : taken ≡ plans ++ under_way stage plan
    pub came_is : came ≡ flat_map characters whole ++ front_characters front
    pub done : AreDone Does first whole plans standing
    pub at_front : IsAt Does standing prepared stage plan.cut front
    pub on_plan : IsOnPlan stage plan front
    pub begins : IsPartUnder plan (front_characters front)

-- the plan taken last
abbrev pub IsTakenLast : Course → List Course → Type 0
IsTakenLast plan taken = (before : List Course) × (taken ≡ before ++ plan ∷ [])
