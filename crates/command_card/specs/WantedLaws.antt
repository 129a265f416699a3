-- What a card of given responses forgets.
use Rattle.std.proofs.Common.{◌≡◌, refl}
use Rattle.command_card.specs.declared.ready.Ready.{Ready}
use Rattle.command_card.specs.declared.ready.Ready.TheVariants as ready
use Rattle.command_card.specs.Given.{GivenState, at_rest, settled}
use Rattle.command_card.specs.View.{CardOf, prepared_in}
use Rattle.command_card.specs.Wanted.{forgotten_by}

abbrev pub ForgetsOnce : CardOf GivenState → Type 0
ForgetsOnce c = (forgotten_by (forgotten_by c) ≡ forgotten_by c)
    × (prepared_in at_rest settled (forgotten_by c) ≡ prepared_in at_rest settled c)

pub forgets_once : (c : CardOf GivenState) → ForgetsOnce c
forgets_once c = at c.ready where
  at : (r : Ready) → ForgetsOnce (record c { ready = r })
  at ready.Nothing = (refl, refl)
  at other = (refl, refl)
