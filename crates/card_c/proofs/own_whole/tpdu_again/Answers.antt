use Rattle.std.proofs.Common.{ℕ, List, ℤ, sym, subst, inl, inr}
use Rattle.t0_core.specs.CardSide.{EndOf}
use Rattle.t0_core.specs.Plan.{Cursor}
use Rattle.card_c.specs.OwnCalls.{OwnCard, OwnDriven}
use Rattle.card_c.specs.OwnWhole.{OwnTpduOne, TriesTpdu}
use Rattle.card_c.proofs.CodeLemmas.{as_it_is}
use Rattle.card_c.proofs.OwnWholeLemmas.{none_is}
use Rattle.card_c.proofs.own_whole.tpdu_again.Goals as goal

pub returns : goal.returns
returns c =
    let a = c.args in let own = a.own.now in let went = c.try_tpdu-went.result in
    let mid = c.try_tpdu-went.new in let new = c.proceed.new.own in
    let Tries : List ℕ → OwnDriven → Type 0 = λ bytes t. TriesTpdu bytes a.answer.now a.len.now
    mid.answer mid.len (own.end, own.plans) went t in
    let first = subst (λ (bytes : List ℕ). Tries bytes (mid.end, mid.plans)) c.deref.ensures.value
    c.try_tpdu-went.ensures in
    let tries = subst (λ (p : Cursor). Tries own.asked.items (new.end, p))
    (sym c.proceed.ensures.line.1)
    (subst (λ (e : EndOf OwnCard). Tries own.asked.items (e, mid.plans))
    (sym c.proceed.ensures.line.0) first) in
    subst (λ (z : ℤ). OwnTpduOne a.tpdu.now a.answer.now a.len.now mid.answer mid.len own z new)
    (sym (as_it_is c.proceed.result c.proceed.type_inv))
    (inr (inl (
      went,
      c.requires,
      none_is a.tpdu.now c.if-not-is_empty.ensures,
      tries,
      c.proceed.ensures.continues,
    )))
