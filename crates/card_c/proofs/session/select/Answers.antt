use Rattle.card_c.proofs.CodeLemmas.{as_it_is}
use Rattle.std.proofs.Common.{ℤ, refl, sym, subst, inr, List, ℕ}
use Rattle.object_card.specs.OneStep.{Select}
use Rattle.card_c.specs.declared.card_side.CardSide.{CardSide}
use Rattle.card_c.specs.declared.card_side.CardSide.TheVariants.{Joined}
use Rattle.card_c.specs.SessionCalls.{Selects, Performs}
use Rattle.card_c.proofs.session.select.Goals as goal

pub returns-in-Some : goal.returns-in-Some
returns-in-Some c =
    let code = c.perform.result in let next = c.perform.new.joined in
    subst (λ (z : ℤ). Selects c.args.aid.now c.args.side.now z (Joined next))
    (sym (as_it_is code c.perform.type_inv))
    (subst (λ (s : CardSide). Selects c.args.aid.now s code (Joined next)) (sym c.in-Joined.is)
    (inr (
      next,
      c.in-Some.ensures.takes.0 refl,
      refl,
      subst (λ (aid : List ℕ). Performs (Select aid) c.in-Joined.joined code next)
          c.in-Some.ensures.same c.perform.ensures,
    )))
