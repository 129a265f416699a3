use Rattle.std.proofs.Common.{ℕ, List, ℤ, sym, subst, inl, inr}
use Rattle.t0_core.specs.CardSide.{EndOf}
use Rattle.card_c.specs.OwnCalls.{OwnCard}
use Rattle.card_c.specs.OwnWhole.{OwnCommandOne, TriesBytes}
use Rattle.card_c.proofs.CodeLemmas.{as_it_is}
use Rattle.card_c.proofs.OwnWholeLemmas.{none_is}
use Rattle.card_c.proofs.own_whole.command_again.Goals as goal

pub returns : goal.returns
returns c =
    let a = c.args in let own = a.own.now in let went = c.try_bytes-went.result in
    let mid = c.try_bytes-went.new in let new = c.proceed.new.own in
    let Tries : List ℕ → EndOf OwnCard → Type 0 = λ bytes e. TriesBytes bytes a.response.now
    a.len.now mid.response mid.len own.end went e in
    let first = subst (λ (bytes : List ℕ). Tries bytes mid.end) c.deref.ensures.value
    c.try_bytes-went.ensures in
    let tries = subst (λ (e : EndOf OwnCard). Tries own.asked.items e)
    (sym c.proceed.ensures.line.0) first in
    subst (λ (z : ℤ). OwnCommandOne a.apdu.now a.response.now a.len.now mid.response mid.len own z
    new) (sym (as_it_is c.proceed.result c.proceed.type_inv))
    (inr (inl (
      went,
      c.requires,
      none_is a.apdu.now c.if-not-is_empty.ensures,
      (tries, c.proceed.ensures.line.1),
      c.proceed.ensures.continues,
    )))
