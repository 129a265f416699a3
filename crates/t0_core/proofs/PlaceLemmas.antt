-- The place of a data character of the card.
use Rattle.std.proofs.Common.{◌≡◌, ℕ, ◌<◌, Bool, true, false, nat_lt, refl, if◌then◌else◌}
use Rattle.std.proofs.lemmas.Bool.{ltb-true}
use Rattle.t0_core.specs.declared.card_end.tpdu.Awaited.TheVariants as next
use Rattle.t0_core.specs.declared.direction.Direction.{Direction}
use Rattle.t0_core.specs.declared.direction.Direction.TheVariants.{ToCard, FromCard}
use Rattle.t0_core.specs.Answering.{data_awaited}

pub same_card_place : (m n : ℕ) → next.OfCard m ≡ next.OfCard n → m ≡ n
same_card_place m n e = cc

pub card_is_due : (v : Bool) (d : Direction) (m u n : ℕ) → nat_lt m u ≡ v
    → (if v then data_awaited d m else next.Procedure) ≡ next.OfCard n
    → (m < u) × (d ≡ FromCard) × (m ≡ n)
card_is_due true ToCard m u n is e = absurd (cc)
card_is_due true FromCard m u n is e = (ltb-true m u is, refl, same_card_place m n e)
card_is_due false d m u n is e = absurd (cc)
