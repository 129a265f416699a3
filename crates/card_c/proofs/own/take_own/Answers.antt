use Rattle.std.proofs.Common.{refl, subst, sym, ℤ}
use Rattle.card_c.specs.declared.card_side.CardSide.{CardSide}
use Rattle.card_c.specs.declared.card_side.CardSide.TheVariants.{Own}
use Rattle.card_c.specs.OwnCalls.{OwnTakes}
use Rattle.card_c.proofs.CodeLemmas.{as_it_is}
use Rattle.card_c.proofs.own.take_own.Goals as goal

pub returns : goal.returns
returns c =
    let code = c.take_one.result in let new = c.take_one.new.own in
    subst (λ (z : ℤ). OwnTakes c.args.byte c.args.side.now z (Own new))
    (sym (as_it_is code c.take_one.type_inv))
    (subst (λ (s : CardSide). OwnTakes c.args.byte s code (Own new)) (sym c.in-Own.is)
    (new, refl, c.take_one.ensures))
