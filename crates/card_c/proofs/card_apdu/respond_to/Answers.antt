use Rattle.std.proofs.Common.{ℤ, refl, sym, subst, inr}
use Rattle.card_c.specs.declared.card_side.CardSide.{CardSide}
use Rattle.card_c.specs.declared.card_side.CardSide.TheVariants.{Standing}
use Rattle.card_c.specs.CardApduCalls.{RespondsTo}
use Rattle.card_c.proofs.CodeLemmas.{as_it_is}
use Rattle.card_c.proofs.OwnLemmas.{other_responds}
use Rattle.card_c.proofs.card_apdu.respond_to.Goals as goal

pub returns-in-Ok : goal.returns-in-Ok
returns-in-Ok c =
    let code = c.carry_out.result in let next = c.carry_out.new in
    let new = Standing next.end c.in-Standing.field-1 in
    subst (λ (z : ℤ). RespondsTo c.args.apdu.now c.args.response.now c.args.len.now next.response
    next.len c.args.side.now z new) (sym (as_it_is code c.carry_out.type_inv))
    (subst (λ (s : CardSide). RespondsTo c.args.apdu.now c.args.response.now c.args.len.now
    next.response next.len s code new) (sym c.in-Standing.is)
    (inr (inr (inr (
      c.in-Ok.command,
      next.end,
      sym c.if-not-is_at_rest.ensures,
      c.in-Ok.ensures.command.0,
      c.in-Ok.ensures.command.1,
      c.carry_out.ensures,
      refl,
    )))))

pub returns-in_default : goal.returns-in_default
returns-in_default c =
    let a = c.args in let code = c.command_own.result in let new = c.command_own.new in
    subst (λ (z : ℤ). RespondsTo a.apdu.now a.response.now a.len.now new.response new.len a.side.now
    z new.side) (sym (as_it_is code c.command_own.type_inv))
    (other_responds a.apdu.now a.response.now a.len.now new.response new.len a.side.now code
    new.side (λ end plans is. c.in_default.not-Standing end plans is) c.command_own.ensures)
