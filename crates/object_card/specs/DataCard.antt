-- How a card's own states relate to those of the definitions.
use Rattle.std.specs.Prelude.{◌≡◌, ℕ}
use Rattle.t0_core.specs.Meaning.{Tpdu}
use Rattle.object_card.specs.State.{CardState, after_reset}
use Rattle.object_card.specs.CardMeaning.{Does}

-- Each of a card's own states stands for a state of the definitions. A TPDU or a reset does to the
-- one what it does to the other.
pub record StandsFor {State : Type 0} (OwnDoes : State → ℕ → Tpdu → State → Type 0)
    (own_reset : State → State) (state_of : State → CardState) : Type 0 where
  pub steps : (old new : State) (cut : ℕ) (tpdu : Tpdu) → OwnDoes old cut tpdu new
      → Does (state_of old) cut tpdu (state_of new)
  pub resets : (state : State) → state_of (own_reset state) ≡ after_reset (state_of state)
