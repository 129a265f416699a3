-- The state of a session's loop: an exchange, a card's end, the plans and the watch.
use Rattle.std.specs.Prelude.{◌≡◌, ◌<◌, ◌≤◌, ℕ, List, [], ◌∷◌, Option, None, ◌⊎◌, Result, MatchResult, Bool, true, false}
use Rattle.std.specs.List.{flat_map}
use Rattle.apdu_core.specs.StatusWord.{StatusWord}
use Rattle.apdu_core.specs.CommandBytes.{Command}
use Rattle.t0_core.specs.declared.end.End.{End}
use Rattle.t0_core.specs.declared.line_fault.LineFault.{LineFault}
use Rattle.t0_core.specs.declared.tpdu_card.TpduCard.{Ghosts}
use Rattle.t0_core.specs.CardHistory.{under_way}
use Rattle.t0_core.specs.CardSide.{EndOf, Stage, Taking_header, StandsAt, IsOnPlan}
use Rattle.t0_core.specs.Dialogue.{Dialogue}
use Rattle.t0_core.specs.Front.{Front, front_characters, fresh}
use Rattle.t0_core.specs.Plan.{Cursor, IsCut, advanced}
use Rattle.t0_core.specs.Watch.{Hearing, Hears}
use Rattle.exchange_core.specs.ExchangeSide.{ExchangeOf, UnderWay, IsOver, so_far, response_limit}
use Rattle.exchange_core.specs.Gathered.{UnitOf, dialogues_of}
use Rattle.object_card.specs.Agreed.{IsAgreed}
use Rattle.card_terminal.specs.Conversing.{Point, point, next_plan, HaveGone, IsCaused, characters_left}

-- all that changes when a character passes
pub record Line (C : Type 0) : Type 0 where
  pub exchange : ExchangeOf
  pub end : EndOf C
  pub cursor : Cursor
  pub hearing : Hearing

abbrev pub line : {C : Type 0} → ExchangeOf → EndOf C → Cursor → Hearing → Line C
line exchange end cursor hearing =
    record { exchange = exchange; end = end; cursor = cursor; hearing = hearing }

-- a watch hears this character of an end
abbrev pub HearsOne : End → Hearing → ℕ → Hearing → Type 0
HearsOne end old byte new = Hears old ((end, byte) ∷ []) new

-- the start of an exchange: its command, and the point of the talk
pub record Start (State : Type 0) : Type 0 where
  pub command : Command
  pub from : Point State

-- the point of a talk at which a line is
abbrev pub point_of : {C : Type 0} (card : Ghosts C) → Line C → Point card.State
point_of card l = point (card.standing l.end.card) l.cursor.rest l.hearing

-- the start of this command's exchange at this state of the line
abbrev pub begun : {C : Type 0} (card : Ghosts C) → Command → Line C → Start card.State
begun card command l = record { command = command; from = point_of card l }

abbrev pub Begins : {C : Type 0} (card : Ghosts C) → Command → Line C → Type 0
Begins card command l = IsAgreed card.MayReceive card.MaySend command
    × UnderWay command l.exchange [] None fresh × (l.exchange.gather.limit ≡ response_limit)

-- The current TPDU has taken the next plan (`advanced`), or is still to take it.
abbrev pub IsAtPlan : Stage → Cursor → Cursor → Type 0
IsAtPlan stage before cursor =
    ((under_way stage (next_plan before.rest) ≡ []) × (cursor ≡ before))
    ⊎ ((under_way stage (next_plan before.rest) ≡ next_plan before.rest ∷ [])
    × (cursor ≡ advanced before) × IsCut (next_plan before.rest).cut)

-- the card's end is at this front, under the next plan after `before`
abbrev pub StandsUnder : {C : Type 0} (card : Ghosts C) → Cursor → Front → Line C → Type 0
StandsUnder card before front l =
    StandsAt card.Does (card.standing l.end.card) (card.prepared l.end.card) l.end.stage
    (next_plan before.rest).cut front
    × IsOnPlan l.end.stage (next_plan before.rest) front × IsAtPlan l.end.stage before l.cursor

-- the exchange is in progress since its start, and both ends are at one front of a dialogue
pub record IsGoing {C : Type 0} (card : Ghosts C) (s : Start card.State) (l : Line C) : Type 0 where
  pub agreed : IsAgreed card.MayReceive card.MaySend s.command
  pub units : List UnitOf
  pub tried : Option Dialogue
  pub front : Front
  pub terminal : UnderWay s.command l.exchange units tried front
  pub room : l.exchange.gather.limit ≡ response_limit
  pub before : Cursor  -- the cursor when the TPDU began
  pub between : Hearing
  pub gone : HaveGone card.Does s.from (so_far units tried)
      (point (card.standing l.end.card) before.rest between)
  pub stands : StandsUnder card before front l
  pub hears : Hears between (front_characters front) l.hearing

-- the exchange has ended, and the card's end waits for a header
pub record IsDone {C : Type 0} (card : Ghosts C) (s : Start card.State) (l : Line C) : Type 0 where
  pub units : List UnitOf
  pub status : StatusWord
  pub terminal : IsOver s.command l.exchange units status
  pub room : l.exchange.gather.limit ≡ response_limit
  pub gone : HaveGone card.Does s.from (flat_map dialogues_of units) (point_of card l)
  pub at_rest : l.end.stage ≡ Taking_header []

abbrev pub IsOneOf : {C : Type 0} (card : Ghosts C) → Start card.State → Line C → Type 0
IsOneOf card s l = IsGoing card s l ⊎ IsDone card s l

-- the card has caused a fault
abbrev pub HasFailed : {C : Type 0} (card : Ghosts C) → Start card.State → Line C → LineFault
    → Type 0
HasFailed card s l fault = IsCaused card.Does s.from s.command (point_of card l) fault

abbrev pub left : {C : Type 0} → Line C → ℕ
left l = characters_left l.exchange l.end.stage l.cursor

-- an exchange that was in progress or had ended still is or has, with no more characters left
abbrev pub Keeps : {C : Type 0} (card : Ghosts C) → Line C → Line C → Type 0
Keeps card old new =
    (s : Start card.State) → IsOneOf card s old → (left new ≤ left old) × IsOneOf card s new

-- true: a character has passed, and fewer are left; false: the exchange has ended
abbrev pub HasPassed : {C : Type 0} (card : Ghosts C) → Start card.State → Line C → Line C → Bool
    → Type 0
HasPassed card s old new true = (left new < left old) × IsOneOf card s new
HasPassed card s old new false = IsDone card s new

-- if the exchange was in progress or had ended, `HasPassed` holds, or the card has caused a fault
abbrev pub Passes : {C : Type 0} {T : Type 0} (card : Ghosts C) → Line C → Line C
    → Result T LineFault → (T → Bool) → Type 0
Passes card old new result going = (s : Start card.State) → IsOneOf card s old →
    MatchResult result
    (λ x. HasPassed card s old new (going x))
    (λ fault. HasFailed card s new fault)

-- if a command has begun, its exchange has ended, or the card has caused a fault
abbrev pub Converses : {C T : Type 0} (card : Ghosts C) → Line C → Line C → Result T LineFault
    → Type 0
Converses card old new result = (command : Command) → Begins card command old →
    MatchResult result
    (λ _. IsDone card (begun card command old) new)
    (λ fault. HasFailed card (begun card command old) new fault)
