use Rattle.std.proofs.Common.{refl, subst, sym, ℤ}
use Rattle.card_c.specs.declared.card_side.CardSide.{CardSide}
use Rattle.card_c.specs.declared.card_side.CardSide.TheVariants.{Own}
use Rattle.card_c.specs.OwnCalls.{OwnReceives}
use Rattle.card_c.proofs.CodeLemmas.{as_it_is}
use Rattle.card_c.proofs.own.receive_own.Goals as goal

pub returns : goal.returns
returns c =
    let code = c.receive_one.result in let new = c.receive_one.new.own in
    let Done : CardSide → ℤ → Type 0 = λ s z. OwnReceives c.args.bytes.now c.args.count.now
    c.receive_one.new.count s z (Own new) in
    subst (λ (z : ℤ). Done c.args.side.now z) (sym (as_it_is code c.receive_one.type_inv))
    (subst (λ (s : CardSide). Done s code) (sym c.in-Own.is)
    (new, refl, c.receive_one.ensures))
