use Rattle.object_card.specs.StateLaws.{stays_sound}
use Rattle.object_card.proofs.laws.a_card_state_stays_one.Goals as goal

pub returns-clause-step : goal.returns-clause-step
returns-clause-step c = stays_sound

pub returns-clause-reset : goal.returns-clause-reset
returns-clause-reset c =
    λ state is. record {
      are_applications = is.are_applications;
      selected_is_held = tt;
      is_pending =
          tt;
    }
