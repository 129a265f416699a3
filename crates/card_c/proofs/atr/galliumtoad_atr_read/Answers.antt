-- The record of an answer is written, or a fault with its place.
use Rattle.std.proofs.Common.{ℤ, refl, sym, subst, inl, inr}
use Rattle.card_c.specs.AtrCalls.{ReadsAtr}
use Rattle.card_c.proofs.AtrLemmas.{end_is}
use Rattle.card_c.proofs.CodeLemmas.{as_it_is}
use Rattle.card_c.proofs.atr.galliumtoad_atr_read.Goals as goal

pub returns-in-Ok : goal.returns-in-Ok
returns-in-Ok c =
    let read = c.in-Ok.ensures.answer in inl (
      c.in-Ok.answer,
      read.0,
      read.1,
      refl,
      c.recorded.ensures,
      rw (c.recorded.ensures, read.1) (end_is c.in-Ok.answer),
      refl,
    )

pub returns-in-Err : goal.returns-in-Err
returns-in-Err c =
    let P : ℤ → Type 0 = λ z. ReadsAtr c.args.bytes.now c.args.atr.now c.args.place.now z
    c.args.atr.now c.in-Err.fault.place in
    subst P (sym (as_it_is c.of_atr.result c.of_atr.type_inv)) (inr (
      c.in-Err.fault,
      (c.in-Err.ensures.fault c.in-Err.fault).0 refl,
      c.of_atr.ensures,
      refl,
      refl,
    ))
