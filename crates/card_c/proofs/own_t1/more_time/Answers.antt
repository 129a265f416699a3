use Rattle.std.proofs.Common.{refl, subst, sym, ℤ}
use Rattle.card_c.specs.declared.card_side.CardSide.{CardSide}
use Rattle.card_c.specs.declared.card_side.CardSide.TheVariants.{Own, OwnAtT1}
use Rattle.card_c.specs.OwnT1.{AsksTime}
use Rattle.card_c.proofs.CodeLemmas.{as_it_is}
use Rattle.card_c.proofs.own_t1.more_time.Goals as goal

pub returns-in-Own : goal.returns-in-Own
returns-in-Own c =
    let code = c.pause.result in let next = c.pause.new.own in
    subst (λ (z : ℤ). AsksTime c.args.multiple c.args.side.now z (Own next))
    (sym (as_it_is code c.pause.type_inv))
    (subst (λ (s : CardSide). AsksTime c.args.multiple s code (Own next)) (sym c.in-Own.is)
    (next, refl, c.pause.ensures))

pub returns-in-OwnAtT1 : goal.returns-in-OwnAtT1
returns-in-OwnAtT1 c =
    let code = c.ask_time.result in let next = c.ask_time.new.at in
    subst (λ (z : ℤ). AsksTime c.args.multiple c.args.side.now z (OwnAtT1 next))
    (sym (as_it_is code c.ask_time.type_inv))
    (subst (λ (s : CardSide). AsksTime c.args.multiple s code (OwnAtT1 next)) (sym c.in-OwnAtT1.is)
    (next, refl, c.ask_time.ensures))
