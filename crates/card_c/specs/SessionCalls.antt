-- What the calls on the handle of a session do to its content. A refusal changes nothing.
use Rattle.std.specs.Prelude.{◌≡◌, ◌⊎◌, ℕ, ℤ, List, [], ◌∷◌, Bool, true, false, not, Option, Some, None, pos, if◌then◌else◌}
use Rattle.t0_core.specs.Character.{Character}
use Rattle.t0_core.specs.Plan.{Course}
use Rattle.t0_core.specs.Watch.{Hearing, Hears}
use Rattle.t0_core.specs.CardSide.{EndOf, Taking_header}
use Rattle.object_card.specs.Tables.{IsAid}
use Rattle.object_card.specs.State.{after_reset, is_idle}
use Rattle.apdu_core.specs.Shared.{Reply}
use Rattle.object_card.specs.OneStep.{Operation, Select, Get, Put, AnswersAll}
use Rattle.object_card.specs.CardMeaning.{Does}
use Rattle.object_card.specs.CardView.{CardView}
use Rattle.card_terminal.specs.Talk.{Talk}
use Rattle.card_c.specs.declared.card_side.CardSide.{CardSide}
use Rattle.card_c.specs.declared.card_side.CardSide.TheVariants.{Standing, Joined}
use Rattle.card_c.specs.declared.session_side.SessionSide.{SessionSide}
use Rattle.card_c.specs.Codes.{gt_ok, gt_empty, gt_state, gt_memory, gt_argument, gt_busy, gt_not_found}
use Rattle.card_c.specs.Copying.{GoesOut}
use Rattle.card_c.specs.TagNumbers.{IsNumbered}
use Rattle.card_c.specs.CardCalls.{HaveLed, HaveLedUnder, no_plans}

-- How the recording of an operation begins. A session that does not listen has lost a character.
abbrev pub beginning : Bool → Hearing
beginning listens = record { heard = []; lost = not listens }

-- A card at T=0 is reset, and a session with it begins, which does not listen. Any other stays as
-- it was.
abbrev pub Joins : CardSide → Bool → CardSide → Type 0
Joins (Standing end plans) joined new =
    (session : SessionSide) × (joined ≡ true) × (new ≡ Joined session)
    × (session.session.state ≡ after_reset end.card.state)
    × (session.plans.items ≡ []) × (session.answer ≡ None) × (session.listens ≡ false)
Joins side joined new = (joined ≡ false) × (new ≡ side)

-- A session ends, and its card is reset and speaks T=0. Anything else stays as it was.
abbrev pub Parts : CardSide → Bool → CardSide → Type 0
Parts (Joined session) parted new =
    (end : EndOf CardView) × (parted ≡ true) × (new ≡ Standing end no_plans)
    × (end.card.state ≡ after_reset session.session.state) × (end.stage ≡ Taking_header [])
    × HaveLed end.card.state [] end × HaveLedUnder end.card.state [] [] end
Parts side parted new = (parted ≡ false) × (new ≡ side)

-- A session begins with a card at T=0, and resets it. The card's handle is empty then.
abbrev pub Starts : Option CardSide → Option CardSide → ℤ → Option CardSide → Option CardSide
    → Type 0
Starts (Some other) card code new left =
    (code ≡ gt_state) × (new ≡ Some other) × (left ≡ card)
Starts None None code new left = (code ≡ gt_empty) × (new ≡ None) × (left ≡ None)
Starts None (Some side) code new left =
    ((joined : CardSide) × Joins side true joined × (code ≡ gt_ok) × (new ≡ Some joined)
    × (left ≡ None))
    ⊎ (Joins side false side × (code ≡ gt_state) × (new ≡ None) × (left ≡ Some side))

-- A session ends, and its card, reset, is in a handle that was empty.
abbrev pub Finishes : Option CardSide → Option CardSide → ℤ → Option CardSide → Option CardSide
    → Type 0
Finishes old (Some other) code new card =
    (code ≡ gt_state) × (new ≡ old) × (card ≡ Some other)
Finishes None None code new card = (code ≡ gt_empty) × (new ≡ None) × (card ≡ None)
Finishes (Some side) None code new card =
    ((parted : CardSide) × Parts side true parted × (code ≡ gt_ok) × (new ≡ None)
    × (card ≡ Some parted))
    ⊎ (Parts side false side × (code ≡ gt_state) × (new ≡ Some side) × (card ≡ None))

-- The card is reset; the rest stays.
pub record IsReset (old new : SessionSide) : Type 0 where
  pub state_is : new.session.state ≡ after_reset old.session.state
  pub plans_are : new.plans ≡ old.plans
  pub answer_is : new.answer ≡ old.answer
  pub listens_is : new.listens ≡ old.listens
  pub heard_is : new.heard ≡ old.heard

abbrev pub ResetsSession : CardSide → ℤ → CardSide → Type 0
ResetsSession (Joined session) code new =
    (next : SessionSide) × (code ≡ gt_ok) × (new ≡ Joined next) × IsReset session next
ResetsSession side code new = (code ≡ gt_state) × (new ≡ side)

-- The operation has its answer, and the tables are those of the card that answers it in one step.
-- The recorded characters, if the session listens, are a talk of the operation with the card under
-- the plans, which are then used up.
pub record HasAnswered (operation : Operation) (old new : SessionSide) : Type 0 where
  pub reply : Reply
  pub answer_is : new.answer ≡ Some reply
  pub plans_are : new.plans.items ≡ []
  pub one_step : AnswersAll old.session.state (operation ∷ []) (reply ∷ []) new.session.state
  pub line : List Character
  pub left : List Course
  pub talk : Talk Does old.session.state old.plans.items (operation ∷ []) (reply ∷ [])
      new.session.state left line
  pub listens_is : new.listens ≡ old.listens
  pub heard : Hears (beginning old.listens) line new.heard

-- nothing was sent, and the session is as it was
pub record IsAsBefore (old new : SessionSide) : Type 0 where
  pub state_is : new.session.state ≡ old.session.state
  pub plans_are : new.plans ≡ old.plans
  pub answer_is : new.answer ≡ old.answer
  pub listens_is : new.listens ≡ old.listens
  pub heard_is : new.heard ≡ old.heard

abbrev pub IsPut : Operation → Type 0
IsPut (Put tag value) = Unit {0}
IsPut (Select aid) = ⊥
IsPut (Get tag) = ⊥

-- An operation takes the room of the last answer. It needs memory without one, and a put for the
-- copy of its value.
abbrev pub NeedsMemory : Operation → SessionSide → Type 0
NeedsMemory operation old = (old.answer ≡ None) ⊎ IsPut operation

-- one operation; none while a chain is pending, and none if memory runs out
abbrev pub Performs : Operation → SessionSide → ℤ → SessionSide → Type 0
Performs operation old code new =
    ((is_idle old.session.state.pending ≡ false) × (code ≡ gt_busy) × (new ≡ old))
    ⊎ ((is_idle old.session.state.pending ≡ true) × (code ≡ gt_memory)
    × NeedsMemory operation old × IsAsBefore old new)
    ⊎ ((is_idle old.session.state.pending ≡ true) × (code ≡ gt_ok)
    × HasAnswered operation old new)

-- SELECT of an application
abbrev pub Selects : List ℕ → CardSide → ℤ → CardSide → Type 0
Selects aid (Joined session) code new =
    ((¬ IsAid aid) × (code ≡ gt_argument) × (new ≡ Joined session))
    ⊎ ((next : SessionSide) × IsAid aid × (new ≡ Joined next)
    × Performs (Select aid) session code next)
Selects aid side code new = (code ≡ gt_state) × (new ≡ side)

-- GET DATA of the tag with this number
abbrev pub Gets : ℕ → CardSide → ℤ → CardSide → Type 0
Gets number (Joined session) code new =
    (((tag : List ℕ) → ¬ IsNumbered number tag) × (code ≡ gt_argument)
    × (new ≡ Joined session))
    ⊎ ((next : SessionSide) × (tag : List ℕ) × IsNumbered number tag × (new ≡ Joined next)
    × Performs (Get tag) session code next)
Gets number side code new = (code ≡ gt_state) × (new ≡ side)

-- PUT DATA of this value under the tag with this number
abbrev pub Puts : ℕ → List ℕ → CardSide → ℤ → CardSide → Type 0
Puts number value (Joined session) code new =
    (((tag : List ℕ) → ¬ IsNumbered number tag) × (code ≡ gt_argument)
    × (new ≡ Joined session))
    ⊎ ((next : SessionSide) × (tag : List ℕ) × IsNumbered number tag × (new ≡ Joined next)
    × Performs (Put tag value) session code next)
Puts number value side code new = (code ≡ gt_state) × (new ≡ side)

-- The last answer is written. Without one, nothing changes.
abbrev pub Tells : Option Reply → ℕ → List ℕ → ℕ → ℤ → ℕ → List ℕ → ℕ → Type 0
Tells None status room len code status' room' len' =
    (code ≡ gt_not_found) × (status' ≡ status) × (room' ≡ room) × (len' ≡ len)
Tells (Some reply) status room len code status' room' len' =
    GoesOut reply.status reply.content room code status' room' len'

-- the answer of the last operation, which stays
abbrev pub TellsAnswer : ℕ → List ℕ → ℕ → ℕ → List ℕ → ℕ → CardSide → ℤ → Type 0
TellsAnswer status room len status' room' len' (Joined session) code =
    Tells session.answer status room len code status' room' len'
TellsAnswer status room len status' room' len' side code =
    (code ≡ gt_state) × (status' ≡ status) × (room' ≡ room) × (len' ≡ len)

-- whether no chain is pending
abbrev pub TellsIdle : CardSide → ℤ → Type 0
TellsIdle (Joined session) code =
    code ≡ (if is_idle session.session.state.pending then pos 1 else pos 0)
TellsIdle side code = code ≡ gt_state
