-- A response is read, or its fault is returned.
use Rattle.std.proofs.Common.{ℤ, refl, sym, subst, inl}
use Rattle.card_c.specs.PpsCalls.{AnswersPps}
use Rattle.card_c.proofs.CodeLemmas.{as_it_is}
use Rattle.card_c.proofs.pps.answered.Goals as goal

pub returns-in-Err : goal.returns-in-Err
returns-in-Err c =
    let P : ℤ → Type 0 = λ z. AnswersPps c.args.request.now c.args.response.now z in
    subst P (sym (as_it_is c.of_pps.result c.of_pps.type_inv))
    (inl (c.in-Err.fault, (c.in-Err.ensures.fault c.in-Err.fault).0 refl, c.of_pps.ensures))
