use Rattle.std.proofs.Common.{refl, subst, sym, ℤ}
use Rattle.card_c.specs.declared.card_side.CardSide.{CardSide}
use Rattle.card_c.specs.declared.card_side.CardSide.TheVariants.{Own}
use Rattle.card_c.specs.OwnCalls.{OwnSends}
use Rattle.card_c.proofs.CodeLemmas.{as_it_is}
use Rattle.card_c.proofs.own.send_own.Goals as goal

pub returns : goal.returns
returns c =
    let code = c.send_one.result in let new = c.send_one.new.own in
    let Done : CardSide → ℤ → Type 0 = λ s z. OwnSends c.args.bytes.now c.args.count.now
    c.send_one.new.bytes c.send_one.new.count s z (Own new) in
    subst (λ (z : ℤ). Done c.args.side.now z) (sym (as_it_is code c.send_one.type_inv))
    (subst (λ (s : CardSide). Done s code) (sym c.in-Own.is)
    (new, refl, c.send_one.ensures))
