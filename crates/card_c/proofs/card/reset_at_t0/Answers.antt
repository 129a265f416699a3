use Rattle.std.proofs.Common.{ℤ, refl, sym, subst}
use Rattle.card_c.specs.declared.card_side.CardSide.{CardSide}
use Rattle.card_c.specs.declared.card_side.CardSide.TheVariants.{Standing}
use Rattle.card_c.specs.Codes.{gt_ok}
use Rattle.card_c.specs.CardCalls.{Resets}
use Rattle.card_c.proofs.OwnLemmas.{other_resets}
use Rattle.card_c.proofs.CodeLemmas.{as_it_is}
use Rattle.card_c.proofs.card.reset_at_t0.Goals as goal

pub returns : goal.returns
returns c =
    let e = c.reset.ensures in
    subst (λ (s : CardSide). Resets s gt_ok (Standing c.reset.new.self c.in-Standing.field-1))
    (sym c.in-Standing.is)
    (c.reset.new.self, refl, refl, e.card, e.stage, e.led, e.anew, e.led_under)

pub returns-in_default : goal.returns-in_default
returns-in_default c =
    let code = c.reset_own.result in
    subst (λ (z : ℤ). Resets c.args.side.now z c.reset_own.new.side)
    (sym (as_it_is code c.reset_own.type_inv))
    (other_resets c.args.side.now code c.reset_own.new.side c.requires
    (λ end plans is. c.in_default.not-Standing end plans is) c.reset_own.ensures)
