use Rattle.std.proofs.Common.{ℤ, refl, sym, subst, inr}
use Rattle.card_c.specs.declared.card_side.CardSide.{CardSide}
use Rattle.card_c.specs.declared.card_side.CardSide.TheVariants.{Standing}
use Rattle.card_c.specs.Codes.{gt_ok}
use Rattle.card_c.specs.CardCalls.{TakesOne}
use Rattle.card_c.proofs.OwnLemmas.{other_takes}
use Rattle.card_c.proofs.CodeLemmas.{as_it_is}
use Rattle.card_c.proofs.card.take.Goals as goal

pub returns-in-Ok : goal.returns-in-Ok
returns-in-Ok c =
    let e = c.in-Ok.ensures in
    subst (λ (s : CardSide). TakesOne c.args.byte s gt_ok
    (Standing c.take.new.self c.in-Standing.field-1)) (sym c.in-Standing.is)
    (inr (c.take.new.self, refl, refl, (sym e.listening, e.taken, e.led, e.led_under)))

pub returns-in_default : goal.returns-in_default
returns-in_default c =
    let code = c.take_own.result in
    subst (λ (z : ℤ). TakesOne c.args.byte c.args.side.now z c.take_own.new.side)
    (sym (as_it_is code c.take_own.type_inv))
    (other_takes c.args.byte c.args.side.now code c.take_own.new.side
    (λ end plans is. c.in_default.not-Standing end plans is) c.take_own.ensures)
