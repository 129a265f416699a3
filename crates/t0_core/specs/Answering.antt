-- A card's end during a whole TPDU, between two characters. Words for inner functions.
use Rattle.std.specs.Prelude.{◌≡◌, ℕ, ◌<◌, List, ◌∷◌, [], ◌++◌, length, ◌⊎◌, Option, nat_lt, if◌then◌else◌, MatchOption, Result, MatchResult}
use Rattle.apdu_core.specs.StatusWord.{StatusWord}
use Rattle.t0_core.specs.declared.tpdu_card.TpduCard.{Ghosts}
use Rattle.t0_core.specs.declared.tpdu_fault.TpduFault.{TpduFault}
use Rattle.t0_core.specs.declared.card_end.tpdu.Awaited.{Awaited}
use Rattle.t0_core.specs.declared.card_end.tpdu.Awaited.TheVariants as next
use Rattle.t0_core.specs.declared.direction.Direction.{Direction}
use Rattle.t0_core.specs.declared.direction.Direction.TheVariants.{ToCard, FromCard}
use Rattle.t0_core.specs.Dialogue.{Body, Dialogue}
use Rattle.t0_core.specs.Plan.{Course}
use Rattle.t0_core.specs.Front.{Front, In_header, In_body, After_first, IsFront, brought}
use Rattle.t0_core.specs.CardHistory.{under_way}
use Rattle.t0_core.specs.CardSide.{EndOf, Stage, Taking_header, Refusing, Serving, Ending, StandsAt, IsOnPlan, IsPermitted, still_to_go}
use Rattle.t0_core.specs.Room.{Room}
use Rattle.t0_core.specs.TpduBytes.{Asked}
use Rattle.t0_core.specs.CardTpdu.{IsOf, IsCarriedOut, IsStuck, IsCause}

-- the next data character, the terminal's or the card's, with its index
abbrev pub data_awaited : Direction → ℕ → Awaited
data_awaited ToCard moved = next.OfTerminal moved
data_awaited FromCard moved = next.OfCard moved

-- the next character at a card's end
abbrev pub awaited_in : Stage → Awaited
awaited_in (Taking_header bytes) = next.OfHeader
awaited_in (Refusing header p3 status done) = next.Procedure
awaited_in (Serving s came) =
    if nat_lt s.moved s.until then data_awaited s.direction s.moved else next.Procedure
awaited_in (Ending status) = next.Second status.0

abbrev pub IsFrontOf : Asked → Front → Type 0
IsFrontOf asked (In_header bytes) = ⊥
IsFrontOf asked (In_body b) = IsOf asked b
IsFrontOf asked (After_first b sw1) = IsOf asked b

-- there are no data to the card, or as many as P3 states
abbrev pub IsWhole : Asked → Type 0
IsWhole asked = (asked.content ≡ []) ⊎ (length asked.content ≡ asked.p3)

-- The card has begun to answer, with a verdict that this header permits. Its state is still
-- the one before the TPDU. The data from it are gathered after those before.
pub record IsAnswering {C : Type 0} (card : Ghosts C) (first : card.State) (plan : Course)
    (asked : Asked) (before got : List ℕ) (e : EndOf C) : Type 0 where
  pub whole : IsWhole asked
  pub front : Front
  pub is_front : IsFront front
  pub stands : StandsAt card.Does (card.standing e.card) (card.prepared e.card) e.stage plan.cut
      front
  pub on_plan : IsOnPlan e.stage plan front
  pub stays : card.standing e.card ≡ first
  pub is_of : IsFrontOf asked front
  pub permitted : IsPermitted card.MayReceive card.MaySend asked.header e.stage
  pub begun : under_way e.stage plan ≡ plan ∷ []
  pub gathers : got ≡ before ++ brought front

-- the TPDU has ended, and the end waits for the next header
abbrev pub Ends : {C : Type 0} (card : Ghosts C) → card.State → Course → Asked → List ℕ → Room
    → EndOf C → StatusWord → Type 0
Ends card first plan asked before room e status =
    (e.stage ≡ Taking_header [])
    × ((d : Dialogue) × IsCarriedOut card.Does first plan asked before room.bytes
    (card.standing e.card) status d)

-- the end is stuck, for this reason
abbrev pub Sticks : {C : Type 0} (card : Ghosts C) → card.State → Course → Asked → List ℕ → Room
    → EndOf C → TpduFault → Type 0
Sticks card first plan asked before room e fault = (b : Body)
    × IsStuck card first plan asked before room b e × IsCause asked room b fault

-- What one more character does to a card's end that was answering.
abbrev pub Passes : {C : Type 0} (card : Ghosts C) → card.State → Course → Asked → List ℕ → EndOf C
    → Room → EndOf C → Result (Option StatusWord) TpduFault → Type 0
Passes card first plan asked before old room new result = MatchResult result
    (λ o. MatchOption o
    (IsAnswering card first plan asked before room.bytes new
    × (still_to_go new.stage plan < still_to_go old.stage plan))
    (λ status. Ends card first plan asked before room new status))
    (λ fault. Sticks card first plan asked before room new fault)
