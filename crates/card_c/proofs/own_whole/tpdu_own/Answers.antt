use Rattle.std.proofs.Common.{refl, subst, sym, ℤ}
use Rattle.card_c.specs.declared.card_side.CardSide.{CardSide}
use Rattle.card_c.specs.declared.card_side.CardSide.TheVariants.{Own}
use Rattle.card_c.specs.OwnWhole.{OwnTpdu}
use Rattle.card_c.proofs.CodeLemmas.{as_it_is}
use Rattle.card_c.proofs.own_whole.tpdu_own.Goals as goal

pub returns : goal.returns
returns c =
    let code = c.tpdu_one.result in let new = c.tpdu_one.new.own in
    let Done : CardSide → ℤ → Type 0 = λ s z. OwnTpdu c.args.tpdu.now c.args.answer.now
    c.args.len.now c.tpdu_one.new.answer c.tpdu_one.new.len s z (Own new) in
    subst (λ (z : ℤ). Done c.args.side.now z) (sym (as_it_is code c.tpdu_one.type_inv))
    (subst (λ (s : CardSide). Done s code) (sym c.in-Own.is)
    (new, refl, c.tpdu_one.ensures))
