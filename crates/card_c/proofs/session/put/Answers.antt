use Rattle.card_c.proofs.CodeLemmas.{as_it_is}
use Rattle.std.proofs.Common.{ℤ, refl, sym, subst, inr}
use Rattle.card_c.specs.declared.card_side.CardSide.{CardSide}
use Rattle.card_c.specs.declared.card_side.CardSide.TheVariants.{Joined}
use Rattle.card_c.specs.SessionCalls.{Puts}
use Rattle.card_c.proofs.session.put.Goals as goal

pub returns-in-Some : goal.returns-in-Some
returns-in-Some c =
    let code = c.store.result in let next = c.store.new.joined in
    subst (λ (z : ℤ). Puts c.args.number c.args.value.now c.args.side.now z (Joined next))
    (sym (as_it_is code c.store.type_inv))
    (subst (λ (s : CardSide). Puts c.args.number c.args.value.now s code (Joined next))
    (sym c.in-Joined.is)
    (inr (next, c.in-Some.tag, c.in-Some.ensures, refl, c.store.ensures)))
