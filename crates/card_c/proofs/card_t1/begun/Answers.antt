use Rattle.std.proofs.Common.{◌≡◌, subst, true}
use Rattle.card_c.specs.declared.card_side.CardSide.{CardSide}
use Rattle.card_c.specs.CardT1Calls.{may_begin}
use Rattle.card_c.proofs.card_t1.begun.Goals as goal

pub new-requires : goal.new-requires
new-requires c = subst (λ (s : CardSide). may_begin s ≡ true) c.in-Standing.is c.requires.side
