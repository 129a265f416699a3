-- The effect of one data character that a card's end sends, for calls that pass many.
use Rattle.std.specs.Prelude.{◌≡◌, ℕ, ◌+◌, ◌<◌, ◌≤◌, List, [], ◌∷◌, ◌++◌, length, false}
use Rattle.t0_core.specs.declared.tpdu_card.TpduCard.{Ghosts}
use Rattle.t0_core.specs.declared.direction.Direction.TheVariants.{FromCard}
use Rattle.t0_core.specs.declared.end.End.TheVariants.{Card}
use Rattle.t0_core.specs.Character.{Character}
use Rattle.t0_core.specs.Plan.{Course}
use Rattle.t0_core.specs.Front.{Front}
use Rattle.t0_core.specs.Meaning.{IsSending}
use Rattle.t0_core.specs.History.{Event, Passed}
use Rattle.t0_core.specs.CardHistory.{Leads, LeadsUnder, IsTakenLast}
use Rattle.t0_core.specs.CardView.{KeepsDirection}
use Rattle.t0_core.specs.CardSide.{EndOf, Stage, Taking_header, Refusing, Serving, Ending, StandsAt, Advances, GoesByCount, listens, takes_plan, still_to_go}
use Rattle.t0_core.specs.declared.card_end.tpdu.Awaited.TheVariants as next
use Rattle.t0_core.specs.Answering.{awaited_in}
use Rattle.t0_core.specs.DataRun.{IsRunAt}

-- The end sends the character, the data at this place of the TPDU. It takes no plan with it. The
-- dialogue continues. What led to the end before leads, with this character, to the end after.
pub record IsHandedOut {C : Type 0} (card : Ghosts C) (old : EndOf C) (byte : ℕ) (new : EndOf C)
    : Type 0 where
  pub place : ℕ
  pub awaited : awaited_in old.stage ≡ next.OfCard place
  pub later : (other : ℕ) → awaited_in new.stage ≡ next.OfCard other → other ≡ place + 1
  pub silent : listens old.stage ≡ false
  pub begun : takes_plan old.stage ≡ false
  pub falls : (plan : Course) → still_to_go new.stage plan < still_to_go old.stage plan
  pub counts : (plan : Course) → GoesByCount old.stage plan byte new.stage
  pub keeps : KeepsDirection old.stage new.stage
  pub advances : (cut : ℕ) (plan : Course) (front : Front)
      → StandsAt card.Does (card.standing old.card) (card.prepared old.card) old.stage cut front
      → Advances card.Does cut plan old.stage front byte (card.standing old.card)
      (card.standing new.card) (card.prepared new.card) new.stage
  pub led : (first : card.State) (events : List Event)
      → Leads card.Does card.after_reset first events (card.standing old.card)
      (card.prepared old.card) old.stage
      → Leads card.Does card.after_reset first (events ++ Passed (Card, byte) ∷ [])
      (card.standing new.card) (card.prepared new.card) new.stage
  pub led_under : (first : card.State) (came : List Character) (taken : List Course)
      (plan : Course) → LeadsUnder card.Does first came taken (card.standing old.card)
      (card.prepared old.card) old.stage
      → IsTakenLast plan taken
      → LeadsUnder card.Does first (came ++ (Card, byte) ∷ []) taken (card.standing new.card)
      (card.prepared new.card) new.stage

-- The end sends these data next, at least one: some of those that the procedure bytes so far move.
abbrev pub AreDue : {C : Type 0} (card : Ghosts C) → EndOf C → List ℕ → Type 0
AreDue card e run = At e.stage where
  At : Stage → Type 0
  At (Taking_header bytes) = ⊥
  At (Refusing header p3 status done) = ⊥
  At (Serving s came) = (s.direction ≡ FromCard) × (s.moved + length run ≤ s.until)
      × IsSending (card.prepared e.card) (λ ask bytes. IsRunAt bytes s.moved run)
  At (Ending status) = ⊥
