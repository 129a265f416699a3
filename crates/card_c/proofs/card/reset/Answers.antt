use Rattle.std.proofs.Common.{sym, subst, ℤ}
use Rattle.card_c.specs.declared.card_side.CardSide.{CardSide}
use Rattle.card_c.specs.CardCalls.{Resets}
use Rattle.card_c.proofs.CardT1Lemmas.{of_t0}
use Rattle.card_c.proofs.CodeLemmas.{as_it_is}
use Rattle.card_c.proofs.card.reset.Goals as goal

pub returns : goal.returns
returns c =
    let code = c.reset_at_t0.result in let new = c.reset_at_t0.new.side in
    subst (λ (z : ℤ). Resets c.args.side.now z new) (sym (as_it_is code c.reset_at_t0.type_inv))
    (of_t0 c.args.side.now code new
    (subst (λ (s : CardSide). Resets s code new) c.leave.ensures c.reset_at_t0.ensures))
