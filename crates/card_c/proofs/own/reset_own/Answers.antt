use Rattle.std.proofs.Common.{refl, subst, sym, ℤ}
use Rattle.card_c.specs.declared.card_side.CardSide.{CardSide}
use Rattle.card_c.specs.declared.card_side.CardSide.TheVariants.{Own}
use Rattle.card_c.specs.OwnCalls.{OwnResets}
use Rattle.card_c.proofs.CodeLemmas.{as_it_is}
use Rattle.card_c.proofs.own.reset_own.Goals as goal

pub returns : goal.returns
returns c =
    let code = c.reset_one.result in let new = c.reset_one.new.own in
    subst (λ (z : ℤ). OwnResets c.args.side.now z (Own new))
    (sym (as_it_is code c.reset_one.type_inv))
    (subst (λ (s : CardSide). OwnResets s code (Own new)) (sym c.in-Own.is)
    (new, refl, c.reset_one.ensures))
