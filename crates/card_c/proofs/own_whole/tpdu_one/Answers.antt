use Rattle.std.proofs.Common.{ℤ, sym, subst, inl}
use Rattle.t0_core.specs.CardSide.{EndOf}
use Rattle.t0_core.specs.Plan.{Cursor}
use Rattle.card_c.specs.OwnCalls.{OwnCard, OwnDriven}
use Rattle.card_c.specs.OwnWhole.{OwnTpduOne, TriesTpdu}
use Rattle.card_c.proofs.CodeLemmas.{as_it_is}
use Rattle.card_c.proofs.own_whole.tpdu_one.Goals as goal

pub returns-in-Nothing : goal.returns-in-Nothing
returns-in-Nothing c =
    let a = c.args in let own = a.own.now in let went = c.try_tpdu-went.result in
    let mid = c.try_tpdu-went.new in let new = c.begin.new.own in
    let Tries : OwnDriven → Type 0 = λ t. TriesTpdu a.tpdu.now a.answer.now a.len.now mid.answer
    mid.len (own.end, own.plans) went t in
    let tries = subst (λ (p : Cursor). Tries (new.end, p)) (sym c.begin.ensures.line.1)
    (subst (λ (e : EndOf OwnCard). Tries (e, mid.plans)) (sym c.begin.ensures.line.0)
    c.try_tpdu-went.ensures) in
    subst (λ (z : ℤ). OwnTpduOne a.tpdu.now a.answer.now a.len.now mid.answer mid.len own z new)
    (sym (as_it_is c.begin.result c.begin.type_inv))
    (inl (went, c.in-Nothing.is, tries, c.begin.ensures.begins))
