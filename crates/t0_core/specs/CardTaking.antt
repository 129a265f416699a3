-- The effect of one character on a card's end that listens, for calls that take many.
use Rattle.std.specs.Prelude.{◌≡◌, ℕ, ◌<◌, List, [], ◌∷◌, ◌++◌, true}
use Rattle.t0_core.specs.declared.tpdu_card.TpduCard.{Ghosts}
use Rattle.t0_core.specs.declared.end.End.TheVariants.{Terminal}
use Rattle.t0_core.specs.Character.{Character}
use Rattle.t0_core.specs.Plan.{Course}
use Rattle.t0_core.specs.Front.{Front, GoesOn}
use Rattle.t0_core.specs.History.{Event, Passed}
use Rattle.t0_core.specs.CardHistory.{Leads, LeadsUnder}
use Rattle.t0_core.specs.CardSide.{EndOf, StandsAt, IsOnPlan, listens, with_character, still_to_go}

-- The end takes the character. The dialogue continues with it and stays on its plan. What led to
-- the end before leads, with this character, to the end after.
pub record IsTaken {C : Type 0} (card : Ghosts C) (old : EndOf C) (byte : ℕ) (new : EndOf C)
    : Type 0 where
  pub listening : listens old.stage ≡ true
  pub taken : new ≡ record old { stage = with_character old.stage byte }
  pub falls : (plan : Course) → still_to_go new.stage plan < still_to_go old.stage plan
  pub goes_on : (cut : ℕ) (front next : Front)
      → StandsAt card.Does (card.standing old.card) (card.prepared old.card) old.stage cut front
      → GoesOn front (Terminal, byte) next
      → StandsAt card.Does (card.standing new.card) (card.prepared new.card) new.stage cut next
      × ((plan : Course) → IsOnPlan old.stage plan front → IsOnPlan new.stage plan next)
  pub led : (first : card.State) (events : List Event)
      → Leads card.Does card.after_reset first events (card.standing old.card)
      (card.prepared old.card) old.stage
      → Leads card.Does card.after_reset first (events ++ Passed (Terminal, byte) ∷ [])
      (card.standing new.card) (card.prepared new.card) new.stage
  pub led_under : (first : card.State) (came : List Character) (taken : List Course)
      → LeadsUnder card.Does first came taken (card.standing old.card) (card.prepared old.card)
      old.stage
      → LeadsUnder card.Does first (came ++ (Terminal, byte) ∷ []) taken (card.standing new.card)
      (card.prepared new.card) new.stage
