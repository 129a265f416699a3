-- What a reset does to a card at T=1 it does to that card at T=0.
use Rattle.std.proofs.Common.{ℤ}
use Rattle.card_c.specs.declared.card_side.CardSide.{CardSide}
use Rattle.card_c.specs.declared.card_side.CardSide.TheVariants.{Building, Standing, Joined, AtT1, Own, OwnAtT1}
use Rattle.card_c.specs.CardCalls.{Resets}
use Rattle.card_c.specs.CardT1Calls.{at_t0}

pub of_t0 : (side : CardSide) (code : ℤ) (new : CardSide) → Resets (at_t0 side) code new
    → Resets side code new
of_t0 (Building applications) code new is = is
of_t0 (Joined session) code new is = is
of_t0 (Standing end plans) code new is = is
of_t0 (AtT1 at) code new is = is
of_t0 (Own own) code new is = is
of_t0 (OwnAtT1 at) code new is = is
