use Rattle.std.proofs.Common.{refl, subst, sym, ℤ}
use Rattle.card_c.specs.declared.card_side.CardSide.{CardSide}
use Rattle.card_c.specs.declared.card_side.CardSide.TheVariants.{Own}
use Rattle.card_c.specs.OwnWhole.{OwnCommand}
use Rattle.card_c.proofs.CodeLemmas.{as_it_is}
use Rattle.card_c.proofs.own_whole.command_own.Goals as goal

pub returns : goal.returns
returns c =
    let code = c.command_one.result in let new = c.command_one.new.own in
    let Done : CardSide → ℤ → Type 0 = λ s z. OwnCommand c.args.apdu.now c.args.response.now
    c.args.len.now c.command_one.new.response c.command_one.new.len s z (Own new) in
    subst (λ (z : ℤ). Done c.args.side.now z) (sym (as_it_is code c.command_one.type_inv))
    (subst (λ (s : CardSide). Done s code) (sym c.in-Own.is)
    (new, refl, c.command_one.ensures))
