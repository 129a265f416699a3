-- The history of a card's end: characters on the line, and resets.
use Rattle.std.specs.Prelude.{◌≡◌, ◌⊎◌, ℕ, ◌<◌, List, [], ◌∷◌, ◌++◌, map}
use Rattle.std.specs.List.{AllByRecursion, flat_map}
use Rattle.t0_core.specs.Character.{Character}
use Rattle.t0_core.specs.Dialogue.{Dialogue, IsDialogue, characters}
use Rattle.t0_core.specs.Plan.{Course, IsCut, Follows}
use Rattle.t0_core.specs.Meaning.{Tpdu, tpdu_of}

-- a character from either end, or a reset of the card's end
pub data Event : Type 0 where
  Passed : (c : Character) → Event
  Reset : Event

abbrev pub passed : List Character → List Event
passed cs = map (λ c. Passed c) cs

-- what events consist of: a whole dialogue, or a reset with the part of a dialogue that it cut off,
-- which may be empty
pub data Item : Type 0 where
  Whole : (d : Dialogue) → Item
  Cut_off : (part : List Character) → Item

abbrev pub events_of : Item → List Event
events_of (Whole d) = passed (characters d)
events_of (Cut_off part) = passed part ++ Reset ∷ []

-- a dialogue that follows this plan
pub record IsUnderPlan (d : Dialogue) (plan : Course) : Type 0 where
  pub is_dialogue : IsDialogue d
  pub in_range : IsCut plan.cut
  pub follows : Follows d plan

-- a dialogue that follows this plan begins with these characters, and is longer
abbrev pub IsPartUnder : Course → List Character → Type 0
IsPartUnder plan part = (d : Dialogue) × (c : Character) × (rest : List Character)
    × IsUnderPlan d plan × (characters d ≡ part ++ c ∷ rest)

-- the same for some plan
abbrev pub IsPart : List Character → Type 0
IsPart part = (plan : Course) × IsPartUnder plan part

abbrev pub IsItem : Item → Type 0
IsItem (Whole d) = (plan : Course) × IsUnderPlan d plan
IsItem (Cut_off part) = IsPart part

-- the events, cut into items and the part of a dialogue in progress
pub record AreCutInto (events : List Event) (items : List Item) (part : List Character)
    : Type 0 where
  pub are_items : AllByRecursion IsItem items
  pub is_part : IsPart part
  pub all_of_them : events ≡ flat_map events_of items ++ passed part

-- The items are a run of a card's meaning. Each whole dialogue follows some plan and is a step
-- under its cut. A reset drops the part of a dialogue that it cut off.
abbrev pub RunsOver : {State : Type 0} → (State → ℕ → Tpdu → State → Type 0) → (State → State)
    → State → List Item → State → Type 0
RunsOver Does after_reset old [] new = new ≡ old
RunsOver {State = State} Does after_reset old (Whole d ∷ items) new =
    (plan : Course) × (mid : State) × IsUnderPlan d plan × Does old plan.cut (tpdu_of d) mid
    × RunsOver Does after_reset mid items new
RunsOver Does after_reset old (Cut_off part ∷ items) new =
    IsPart part × RunsOver Does after_reset (after_reset old) items new

-- the same dialogue, except for the direction if no data moved
pub record AreAlike (d e : Dialogue) : Type 0 where
  pub same_header : d.body.header ≡ e.body.header
  pub same_p3 : d.body.p3 ≡ e.body.p3
  pub same_segments : d.body.segments ≡ e.body.segments
  pub same_moved : d.body.moved ≡ e.body.moved
  pub same_status : d.status ≡ e.status
  pub same_direction : (d.body.direction ≡ e.body.direction) ⊎ (d.body.moved ≡ [])

abbrev pub AreAlikeInTurn : List Item → List Item → Type 0
AreAlikeInTurn [] [] = Unit {0}
AreAlikeInTurn (Whole d ∷ items) (Whole e ∷ others) = AreAlike d e × AreAlikeInTurn items others
AreAlikeInTurn (Cut_off part ∷ items) (Cut_off other ∷ others) =
    (part ≡ other) × AreAlikeInTurn items others
AreAlikeInTurn _ _ = ⊥

-- each character is a byte
abbrev pub IsByteEvent : Event → Type 0
IsByteEvent (Passed c) = c.1 < 256
IsByteEvent Reset = Unit {0}
