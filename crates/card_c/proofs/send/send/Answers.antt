use Rattle.std.proofs.Common.{ℤ, refl, sym, subst, inr}
use Rattle.card_c.specs.declared.card_side.CardSide.{CardSide}
use Rattle.card_c.specs.declared.card_side.CardSide.TheVariants.{Joined}
use Rattle.card_c.specs.SendCalls.{SendsBytes}
use Rattle.card_c.proofs.CodeLemmas.{as_it_is}
use Rattle.card_c.proofs.send.send.Goals as goal

pub returns-then-is_agreed : goal.returns-then-is_agreed
returns-then-is_agreed c =
    let code = c.transmit.result in let next = c.transmit.new.joined in
    subst (λ (z : ℤ). SendsBytes c.args.bytes.now c.args.side.now z (Joined next))
    (sym (as_it_is code c.transmit.type_inv))
    (subst (λ (s : CardSide). SendsBytes c.args.bytes.now s code (Joined next)) (sym c.in-Joined.is)
    (inr (inr (
      c.in-Ok.command,
      next,
      c.in-Ok.ensures.command.0,
      c.in-Ok.ensures.command.1,
      c.is_agreed.ensures.0 c.if-is_agreed.true,
      refl,
      c.transmit.ensures,
    ))))
