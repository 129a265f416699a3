-- What the card responds to a command that is too long, and after the last response is dropped.
use Rattle.std.proofs.Common.{◌≡◌, ℕ, ◌<◌, List, [], length, Bool, true, false, refl, if◌then◌else◌}
use Rattle.apdu_core.specs.CommandBytes.{Command}
use Rattle.apdu_core.specs.CommandLaws.{has_no_form}
use Rattle.t1_core.specs.declared.applet.Requests.{Requests}
use Rattle.t1_core.specs.CardSide.{no_requests}
use Rattle.command_card.specs.AtT1.{DoesBytes, status_bytes}
use Rattle.command_card.specs.Given.{GivenState, at_rest}
use Rattle.command_card.specs.State.{CardState}
use Rattle.command_card.specs.View.{CardOf, standing_in}
use Rattle.command_card.specs.Wanted.{forgotten_by, is_free}

pub too_long_does : {S : Type 0}
    (Does : CardState S → Command → List ℕ → CardState S → Type 0) (old new : CardState S)
    (response : List ℕ) (asks : Requests)
    → response ≡ status_bytes (0x67, 0x00) → new ≡ old → asks ≡ no_requests
    → (command : List ℕ) → 261 < length command
    → DoesBytes Does old (record { command = command; response = response; asks = asks }) new
too_long_does Does old new response asks is stays none command long = record {
  no_form = λ no. (is, stays);
  invalid_ins = λ c has same. absurd (has_no_form c command has.sizes same long);
  command = λ c has same. absurd (has_no_form c command has.sizes same long);
  asks = none;
}

pub forgotten_stands : (c : CardOf GivenState)
    → standing_in at_rest (forgotten_by c) ≡ standing_in at_rest c
forgotten_stands c = at (is_free c.ready) where
  at : (free : Bool)
      → standing_in at_rest (if free then record c { fresh = [] } else c) ≡ standing_in at_rest c
  at true = refl
  at false = refl
