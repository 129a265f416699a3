-- A whole TPDU at a card's end, as a reader's firmware carries it out (ISO/IEC 7816-3, 10.3). The
-- result if it cannot be carried out is this project's profile.
use Rattle.std.specs.Prelude.{◌≡◌, ℕ, ◌<◌, ◌≤◌, List, ◌∷◌, [], ◌++◌, length, take, ◌⊎◌, Bool, true, false, ◌==◌, Some, None, Result, Err, MatchResult}
use Rattle.apdu_core.specs.StatusWord.{StatusWord}
use Rattle.t0_core.specs.declared.tpdu_card.TpduCard.{Ghosts}
use Rattle.t0_core.specs.declared.tpdu_fault.TpduFault.{TpduFault}
use Rattle.t0_core.specs.declared.tpdu_fault.TpduFault.TheVariants.{UnderWay, NoTpdu, WantsData, SendsData, TooLong}
use Rattle.t0_core.specs.declared.direction.Direction.{Direction}
use Rattle.t0_core.specs.declared.direction.Direction.TheVariants.{ToCard, FromCard}
use Rattle.t0_core.specs.Character.{Character}
use Rattle.t0_core.specs.Dialogue.{Body, Dialogue, to_move, characters, body_characters}
use Rattle.t0_core.specs.Meaning.{Tpdu, tpdu_of, received, sent}
use Rattle.t0_core.specs.Plan.{Course, Cursor, advanced, plan_kept}
use Rattle.t0_core.specs.Front.{In_body, IsFront, brought}
use Rattle.t0_core.specs.History.{Event, Reset, IsUnderPlan, passed}
use Rattle.t0_core.specs.CardHistory.{Leads, LeadsUnder}
use Rattle.t0_core.specs.CardSide.{EndOf, Stage, Taking_header, Refusing, Serving, Ending, StandsAt, IsOnPlan, PermitsData}
use Rattle.t0_core.specs.Room.{Room}
use Rattle.t0_core.specs.TpduBytes.{Asked, asked_in}

-- no character of a TPDU was sent yet
abbrev pub rests : Stage → Bool
rests (Taking_header bytes) = length bytes == 0
rests (Refusing header p3 status done) = false
rests (Serving s came) = false
rests (Ending status) = false

-- To the card, the first of the given data have moved; from it, no more than may come.
abbrev pub AreAsked : Direction → Asked → List ℕ → Type 0
AreAsked ToCard asked moved = moved ≡ take (length moved) asked.content
AreAsked FromCard asked moved = length moved ≤ asked.may_come

abbrev pub IsOf : Asked → Body → Type 0
IsOf asked b = (b.header ≡ asked.header) × (b.p3 ≡ asked.p3)
    × AreAsked b.direction asked b.moved

-- A dialogue of the card's own meaning took place under this plan, with this header and P3, and
-- this status. All given data have moved or none. The data from the card, no more than may come,
-- are gathered.
pub record IsCarriedOut {State : Type 0} (Does : State → ℕ → Tpdu → State → Type 0)
    (first : State) (plan : Course) (asked : Asked) (before got : List ℕ) (next : State)
    (status : StatusWord) (d : Dialogue) : Type 0 where
  pub is_of : IsOf asked d.body
  pub under_plan : IsUnderPlan d plan
  pub does : Does first plan.cut (tpdu_of d) next
  pub all_or_none : (sent d ≡ []) ⊎ (sent d ≡ asked.content)
  pub fits : length (received d) ≤ asked.may_come
  pub gathers : got ≡ before ++ received d
  pub status_is : d.status ≡ status

-- The end is in the middle of the TPDU that was asked, the card's state is unchanged, and data move
-- next, as this header permits.
pub record IsStuck {C : Type 0} (card : Ghosts C) (first : card.State) (plan : Course)
    (asked : Asked) (before : List ℕ) (room : Room) (b : Body) (e : EndOf C) : Type 0 where
  pub is_front : IsFront (In_body b)
  pub stands : StandsAt card.Does (card.standing e.card) (card.prepared e.card) e.stage plan.cut
      (In_body b)
  pub on_plan : IsOnPlan e.stage plan (In_body b)
  pub stays : card.standing e.card ≡ first
  pub is_of : IsOf asked b
  pub gathers : room.bytes ≡ before ++ brought (In_body b)
  pub permitted : PermitsData card.MayReceive card.MaySend asked.header b.direction
  pub due : length b.moved < to_move b

-- Why the data can't move: the card takes more than were given, or sends more than may come, or
-- more than there is room for.
abbrev pub IsCause : Asked → Room → Body → TpduFault → Type 0
IsCause asked room b UnderWay = ⊥
IsCause asked room b NoTpdu = ⊥
IsCause asked room b WantsData =
    (b.direction ≡ ToCard) × (length asked.content ≤ length b.moved)
IsCause asked room b SendsData =
    (b.direction ≡ FromCard) × (asked.may_come ≤ length b.moved)
IsCause asked room b TooLong =
    (b.direction ≡ FromCard) × (length b.moved < asked.may_come)
    × (length room.bytes ≡ room.limit)

-- What led to the end before leads, with the characters of this dialogue and its plan, to the end
-- after.
abbrev pub LeadsOnBy : {C : Type 0} (card : Ghosts C) → Course → EndOf C → EndOf C → Dialogue
    → Type 0
LeadsOnBy card plan old new d =
    ((first : card.State) (events : List Event)
    → Leads card.Does card.after_reset first events (card.standing old.card)
    (card.prepared old.card) old.stage
    → Leads card.Does card.after_reset first (events ++ passed (characters d))
    (card.standing new.card) (card.prepared new.card) new.stage)
    × ((first : card.State) (came : List Character) (taken : List Course)
    → LeadsUnder card.Does first came taken (card.standing old.card) (card.prepared old.card)
    old.stage
    → LeadsUnder card.Does first (came ++ characters d) (taken ++ plan ∷ [])
    (card.standing new.card) (card.prepared new.card) new.stage)

-- What led to the end before leads, with these characters and then a reset, to the end after. A new
-- history starts there too.
abbrev pub LeadsToReset : {C : Type 0} (card : Ghosts C) → EndOf C → EndOf C → Body → Type 0
LeadsToReset card old new b =
    ((first : card.State) (events : List Event)
    → Leads card.Does card.after_reset first events (card.standing old.card)
    (card.prepared old.card) old.stage
    → Leads card.Does card.after_reset first
    ((events ++ passed (body_characters b)) ++ Reset ∷ [])
    (card.standing new.card) (card.prepared new.card) new.stage)
    × Leads card.Does card.after_reset (card.standing new.card) [] (card.standing new.card)
    (card.prepared new.card) new.stage
    × LeadsUnder card.Does (card.standing new.card) [] [] (card.standing new.card)
    (card.prepared new.card) new.stage

-- the TPDU is carried out, with this status
abbrev pub Answers : {C : Type 0} (card : Ghosts C) → Asked → Course → EndOf C → Room → StatusWord
    → EndOf C → Room → Type 0
Answers card asked plan old room status new room' = (d : Dialogue)
    × IsCarriedOut card.Does (card.standing old.card) plan asked room.bytes room'.bytes
    (card.standing new.card) status d
    × LeadsOnBy card plan old new d

-- the card was stuck in the TPDU, and has been reset
abbrev pub Fails : {C : Type 0} (card : Ghosts C) → Asked → Course → EndOf C → Room → TpduFault
    → EndOf C → Room → Type 0
Fails {C = C} card asked plan old room fault new room' = (b : Body) × (stuck : EndOf C)
    × IsStuck card (card.standing old.card) plan asked room.bytes room' b stuck
    × IsCause asked room' b fault
    × (card.standing new.card ≡ card.after_reset (card.standing old.card))
    × LeadsToReset card old new b

-- either of these, under the next plan
abbrev pub HasGone : {C : Type 0} (card : Ghosts C) → Asked → EndOf C → Cursor → Room
    → Result StatusWord TpduFault → EndOf C → Cursor → Room → Type 0
HasGone card asked old plans room result new plans' room' =
    (plans' ≡ advanced plans) × (room'.limit ≡ room.limit) × (new.stage ≡ Taking_header [])
    × MatchResult result
    (λ status. Answers card asked (plan_kept plans') old room status new room')
    (λ fault. Fails card asked (plan_kept plans') old room fault new room')

-- These bytes are carried out if no TPDU is in progress and they are one. Otherwise nothing
-- changes.
abbrev pub CarriesOut : {C : Type 0} (card : Ghosts C) → List ℕ → EndOf C → Cursor → Room
    → Result StatusWord TpduFault → EndOf C → Cursor → Room → Type 0
CarriesOut card bytes old plans room result new plans' room' =
    ((rests old.stage ≡ false) × (result ≡ Err UnderWay) × (new ≡ old) × (plans' ≡ plans)
    × (room' ≡ room))
    ⊎ ((rests old.stage ≡ true) × (asked_in bytes ≡ None) × (result ≡ Err NoTpdu) × (new ≡ old)
    × (plans' ≡ plans) × (room' ≡ room))
    ⊎ ((rests old.stage ≡ true) × (asked : Asked) × (asked_in bytes ≡ Some asked)
    × HasGone card asked old plans room result new plans' room')
