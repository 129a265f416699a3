-- A request is read, or is invalid.
use Rattle.std.proofs.Common.{ℤ, refl, sym, subst, inl, inr}
use Rattle.card_c.specs.PpsCalls.{AgreesPps}
use Rattle.card_c.proofs.CodeLemmas.{as_it_is}
use Rattle.card_c.proofs.pps.galliumtoad_pps_agreed.Goals as goal

pub returns-in-Ok : goal.returns-in-Ok
returns-in-Ok c =
    let P : ℤ → Type 0 = λ z. AgreesPps c.args.request.now c.args.response.now z in
    subst P (sym (as_it_is c.answered.result c.answered.type_inv))
    (inr (c.in-Ok.request, c.in-Ok.ensures.pps, c.answered.ensures))

pub returns-in-Err : goal.returns-in-Err
returns-in-Err c = inl (c.in-Err.field-0, (c.in-Err.ensures.fault c.in-Err.field-0).0 refl, refl)
