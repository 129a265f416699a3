-- What passes a connector of a dialogue of both ends, and the commands and responses that a tap
-- there gives.
use Rattle.std.specs.Prelude.{◌≡◌, ◌≢◌, ◌≤◌, ◌+◌, ◌*◌, ℕ, Bool, true, false, List, [], ◌∷◌, ◌++◌, length, Option, Some, None}
use Rattle.std.specs.List.{flat_map}
use Rattle.t1_core.specs.declared.gathered.Progress.{Progress}
use Rattle.t1_core.specs.declared.gathered.Progress.TheVariants.{Nothing, Begun, Whole}
use Rattle.t1_core.specs.declared.line.Fate.{Fate}
use Rattle.t1_core.specs.declared.line.Fate.TheVariants.{Delivers}
use Rattle.t1_core.specs.declared.line.Fates.{Fates}
use Rattle.t1_core.specs.declared.reading.End.{End}
use Rattle.t1_core.specs.declared.reading.End.TheVariants.{Terminal, Card}
use Rattle.t1_core.specs.declared.reading.Role.{Role}
use Rattle.t1_core.specs.declared.reading.Role.TheVariants as role
use Rattle.t1_core.specs.declared.terminal.Cause.{Cause}
use Rattle.t1_core.specs.declared.terminal.Cause.TheVariants.{TooLong}
use Rattle.t1_core.specs.declared.terminal.Outcome.{Outcome}
use Rattle.t1_core.specs.declared.terminal.Outcome.TheVariants.{NotCarriedOut}
use Rattle.t1_core.specs.declared.terminal.Phase.TheVariants.{GivenUp}
use Rattle.t1_core.specs.Block.{Block}
use Rattle.t1_core.specs.CardSide as card
use Rattle.t1_core.specs.CardSide.{Meaning, card_meets}
use Rattle.t1_core.specs.Gathering.{Gathered, adds_found, newly}
use Rattle.t1_core.specs.Hearing.{Item}
use Rattle.t1_core.specs.Items.{Found, Valid}
use Rattle.t1_core.specs.Reading.{is_end}
use Rattle.t1_core.specs.TerminalSide.{outcome_of, sends}
use Rattle.t1_core.specs.World.{World, exchange}

-- a valid block of this end
abbrev pub Passed : Type 0
Passed = End × Block

-- A connector of an end has all blocks that it sends (`own`), and those that arrive there whole.
abbrev pub passes : (own : Bool) → End → Fate → Option Block → List Passed
passes own from fate None = []
passes true from fate (Some b) = (from, b) ∷ []
passes false from Delivers (Some b) = (from, b) ∷ []
passes false from fate (Some b) = []

abbrev pub passes_both : (at : End) → Meaning → Fates → card.Card → Option Block → List Passed
passes_both at m fates c None = []
passes_both at m fates c (Some b) =
    passes (is_end Terminal at) Terminal fates.down (Some b)
    ++ passes (is_end Card at) Card fates.up (card_meets m fates.down b c).block

abbrev pub passed : (at : End) → Meaning → List Fates → World → List Passed
passed at m [] w = []
passed at m (f ∷ fs) w =
    passes_both at m f w.card (sends w.terminal) ++ passed at m fs (exchange m f w)

-- the valid blocks of items
abbrev pub valid_in : End → Found → List Passed
valid_in from (Valid b) = (from, b) ∷ []
valid_in from invalid = []

abbrev pub blocks_in : List Item → List Passed
blocks_in items = flat_map (λ (i : Item). valid_in i.from i.found) items

-- a command of the terminal, or a response of the card
abbrev pub Message : Type 0
Message = End × List ℕ

abbrev pub whole_with : Progress → Gathered → List Message
whole_with Whole g = (g.from, g.bytes) ∷ []
whole_with progress g = []

abbrev pub whole : Gathered → List Message
whole g = whole_with g.progress g

-- `old` has ended: the next message begins, or the tap has missed something, or an S-block ends it
abbrev pub over_at : Progress → Gathered → List Message
over_at Begun old = []
over_at Whole old = []
over_at progress old = whole old

abbrev pub over : Role → (old new : Gathered) → List Message
over (role.Field true last) old new = whole old
over other old new = over_at new.progress old

-- the whole messages before the newest one
pub record Story : Type 0 where
  pub given : List Message
  pub now : Gathered

abbrev pub tells : Story → End → Role → Found → Story
tells s from role found = record {
  given = s.given ++ over role s.now (adds_found s.now from role found);
  now = adds_found s.now from role found;
}

abbrev pub tells_all : Story → List Item → Story
tells_all s [] = s
tells_all s (i ∷ is) = tells_all (tells s i.from i.role i.found) is

abbrev pub untold : Story
untold = record { given = []; now = newly Nothing Terminal }

-- the whole commands and responses, in order
abbrev pub messages : Story → List Message
messages s = s.given ++ whole s.now

-- each command and the card's response to it
abbrev pub turns : (List (List ℕ) → List ℕ) → (before commands : List (List ℕ)) → List Message
turns does before [] = []
turns does before (c ∷ cs) =
    (Terminal, c) ∷ (Card, does (before ++ c ∷ [])) ∷ turns does (before ++ c ∷ []) cs

abbrev pub is_known : Role → Bool
is_known role.Unknown = false
is_known other = true

abbrev pub IsKnown : Item → Type 0
IsKnown i = is_known i.role ≡ true

-- the bytes are the first of the next message
abbrev pub IsBegun : Gathered → List Message → Type 0
IsBegun g rest = (bytes : List ℕ) × (later : List Message)
    × (rest ≡ (g.from, g.bytes ++ bytes) ∷ later)

-- A fault is true of what was given: the command in progress was, unless its last block was never
-- sent.
abbrev pub IsGiven : Outcome → (answers given : ℕ) → Type 0
IsGiven NotCarriedOut answers given = given ≡ 2 * answers
IsGiven other answers given = 2 * answers + 1 ≤ given

-- What a tap has given at this connector of a dialogue: the first messages, in order. `rest`
-- follows. Each command that has an answer and the answer were given. One more command may be in
-- progress: it was given if its last block has passed, and so was its response.
pub record IsOverheard (at : End) (m : Meaning) (before commands : List (List ℕ)) (w : World)
    (s : Story) : Type 0 where
  pub rest : List Message
  pub in_order : messages s ++ rest ≡ turns m.does before commands
  pub begun : s.now.progress ≡ Begun → IsBegun s.now rest
  pub answered : 2 * length w.answers ≤ length (messages s)
  pub few : length (messages s) ≤ 2 * length w.answers + 2
  -- at the card, each command that it has carried out, and no other
  pub ran : List (List ℕ)
  pub ran_is : w.card.ran ≡ before ++ ran
  pub at_card : at ≡ Card → (2 * length ran ≤ length (messages s) + 1)
      × (length (messages s) ≤ 2 * length ran)
  -- at the terminal, no response but the answers, and one that is longer than its limit
  pub at_terminal : at ≡ Terminal → w.terminal.phase ≢ GivenUp TooLong
      → length (messages s) ≤ 2 * length w.answers + 1
  pub told : at ≡ Terminal → (cause : Cause) → w.terminal.phase ≡ GivenUp cause
      → IsGiven (outcome_of w.terminal) (length w.answers) (length (messages s))
