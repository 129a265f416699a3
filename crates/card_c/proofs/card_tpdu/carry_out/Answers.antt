use Rattle.std.proofs.Common.{ℤ, sym, subst}
use Rattle.card_c.specs.CardTpduCalls.{CarriesOut}
use Rattle.card_c.proofs.CodeLemmas.{as_it_is}
use Rattle.card_c.proofs.OwnLemmas.{other_carries}
use Rattle.card_c.proofs.card_tpdu.carry_out.Goals as goal

pub returns-in_default : goal.returns-in_default
returns-in_default c =
    let a = c.args in let code = c.tpdu_own.result in let new = c.tpdu_own.new in
    subst (λ (z : ℤ). CarriesOut a.tpdu.now a.answer.now a.len.now new.answer new.len a.side.now z
    new.side) (sym (as_it_is code c.tpdu_own.type_inv))
    (other_carries a.tpdu.now a.answer.now a.len.now new.answer new.len a.side.now code new.side
    (λ end plans is. c.in_default.not-Standing end plans is) c.tpdu_own.ensures)
