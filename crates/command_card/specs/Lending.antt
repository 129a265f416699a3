-- Histories of the end of any card that its caller is also lent, between two characters. `K`: what
-- a caller may do to the card.
use Rattle.std.specs.Prelude.{◌≡◌, ℕ, List, [], ◌∷◌, ◌++◌}
use Rattle.std.specs.List.{flat_map}
use Rattle.t0_core.specs.CardHistory.{IsAt}
use Rattle.t0_core.specs.CardSide.{Stage}
use Rattle.t0_core.specs.Front.{Front, IsFront, front_characters}
use Rattle.t0_core.specs.History.{Event, Item, Whole, Cut_off, IsPart, IsUnderPlan, events_of, passed}
use Rattle.t0_core.specs.Meaning.{Tpdu, Prepared, tpdu_of}
use Rattle.t0_core.specs.Plan.{Course}

-- a character or a reset; or the card was lent, and this was done to it
pub data Happening (K : Type 0) : Type 0 where
  On_line : (e : Event) → Happening K
  Lent : (k : K) → Happening K

abbrev pub line_of : {K : Type 0} → List (Happening K) → List Event
line_of [] = []
line_of (On_line e ∷ hs) = e ∷ line_of hs
line_of (Lent k ∷ hs) = line_of hs

abbrev pub lent_of : {K : Type 0} → List (Happening K) → List K
lent_of [] = []
lent_of (On_line e ∷ hs) = lent_of hs
lent_of (Lent k ∷ hs) = k ∷ lent_of hs

-- these events, and nothing that was done to the card
abbrev pub on_line : {K : Type 0} → List Event → List (Happening K)
on_line [] = []
on_line (e ∷ es) = On_line e ∷ on_line es

-- this was done to the card, and nothing moved on the line
abbrev pub all_lent : {K : Type 0} → List K → List (Happening K)
all_lent [] = []
all_lent (k ∷ ks) = Lent k ∷ all_lent ks

-- A whole dialogue, or a reset with what it cut off. `last`: its last character, or the reset.
pub record Stretch (K : Type 0) : Type 0 where
  pub item : Item
  pub before : List (Happening K)  -- what happened before `last`
  pub last : Event

abbrev pub happenings_of : {K : Type 0} → Stretch K → List (Happening K)
happenings_of s = s.before ++ On_line s.last ∷ []

-- its characters and its reset are those of the item
abbrev pub IsStretch : {K : Type 0} → Stretch K → Type 0
IsStretch s = events_of s.item ≡ line_of s.before ++ s.last ∷ []

-- What was done to the card amid a dialogue, in order. `Lends`: what is done at a front of the
-- dialogue, and from which state to which. `so`: what has passed.
abbrev pub AreLent : {K State : Type 0} → (K → Front → State → State → Type 0) → List Event → State
    → List (Happening K) → State → Type 0
AreLent Lends so old [] new = new ≡ old
AreLent Lends so old (On_line e ∷ hs) new = AreLent Lends (so ++ e ∷ []) old hs new
AreLent {State = State} Lends so old (Lent k ∷ hs) new = (front : Front) × (mid : State)
    × IsFront front × (so ≡ passed (front_characters front)) × Lends k front old mid
    × AreLent Lends so mid hs new

-- A whole dialogue follows some plan, and is a step of the card's own meaning. A reset drops the
-- part that it cut off.
abbrev pub Passes : {State : Type 0} → (State → ℕ → Tpdu → State → Type 0) → (State → State)
    → State → Item → State → Type 0
Passes Does after_reset ready (Whole d) new =
    (plan : Course) × IsUnderPlan d plan × Does ready plan.cut (tpdu_of d) new
Passes Does after_reset ready (Cut_off part) new = IsPart part × (new ≡ after_reset ready)

-- The stretches are a run of a card's meaning. What is done to the card amid a dialogue is done
-- before the dialogue's step.
abbrev pub RunsLent : {K State : Type 0} → (State → ℕ → Tpdu → State → Type 0) → (State → State)
    → (K → Front → State → State → Type 0) → State → List (Stretch K) → State → Type 0
RunsLent Does after_reset Lends old [] new = new ≡ old
RunsLent {State = State} Does after_reset Lends old (s ∷ ss) new = (ready : State) × (mid : State)
    × IsStretch s × AreLent Lends [] old s.before ready × Passes Does after_reset ready s.item mid
    × RunsLent Does after_reset Lends mid ss new

-- These happenings lead to the state of the end: as `Leads`, and the card may be lent between any
-- two characters.
pub record LeadsLent {K State : Type 0} (Does : State → ℕ → Tpdu → State → Type 0)
    (after_reset : State → State) (Lends : K → Front → State → State → Type 0)
    (first : State) (happenings : List (Happening K)) (standing : State)
    (prepared : Prepared State) (stage : Stage) : Type 0 where
  pub stretches : List (Stretch K)
  pub current : List (Happening K)  -- since the last SW2 or reset
  pub mid : State
  pub cut : ℕ
  pub front : Front
  pub happenings_are : happenings ≡ flat_map happenings_of stretches ++ current
  pub line_is : line_of current ≡ passed (front_characters front)
  pub runs : RunsLent Does after_reset Lends first stretches mid
  pub are_lent : AreLent Lends [] mid current standing
  pub at_front : IsAt Does standing prepared stage cut front
