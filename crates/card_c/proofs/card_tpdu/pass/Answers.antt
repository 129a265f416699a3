use Rattle.std.proofs.Common.{Ok, Err, ℤ, subst, sym, ◌∙◌}
use Rattle.card_c.specs.WholeCalls.{IsCarriedOut}
use Rattle.card_c.proofs.CodeLemmas.{as_it_is}
use Rattle.card_c.proofs.CardTpduLemmas.{answered, failed, in_queue}
use Rattle.card_c.proofs.card_tpdu.pass.Goals as goal

pub returns-in-Ok : goal.returns-in-Ok
returns-in-Ok g c =
    let a = c.args in let new = c.tpdu-done.new in let status = c.in-Ok.status in
    answered g.C.TpduCard a.tpdu.now a.end.now a.plans.now a.gather.now a.answer.now status new.self
    c.advance.new.self new.gather c.hand_out.new.answer a.len.now c.hand_out.new.len
    c.bytes.result.now
    (in_queue g.C.TpduCard a.tpdu.now a.end.now c.cursor.result a.plans.now new.plans
    c.advance.new.self a.gather.now (Ok status) new.self new.gather c.requires.rests
    c.requires.whole c.cursor.ensures c.advance.ensures c.in-Ok.ensures)
    c.bytes.ensures.value c.hand_out.ensures.len c.hand_out.ensures.answer

pub returns-in-Err : goal.returns-in-Err
returns-in-Err g c =
    let a = c.args in let new = c.tpdu-done.new in let fault = c.in-Err.fault in
    let P : ℤ → Type 0 = λ code. IsCarriedOut g.C.TpduCard a.tpdu.now a.end.now a.plans.now
    a.gather.now a.answer.now a.len.now code new.self c.advance.new.self a.answer.now a.len.now in
    subst P (sym c.of_tpdu.ensures ∙ sym (as_it_is c.of_tpdu.result c.of_tpdu.type_inv))
    (failed g.C.TpduCard a.tpdu.now a.end.now a.plans.now a.gather.now a.answer.now fault new.self
    c.advance.new.self new.gather a.len.now
    (in_queue g.C.TpduCard a.tpdu.now a.end.now c.cursor.result a.plans.now new.plans
    c.advance.new.self a.gather.now (Err fault) new.self new.gather c.requires.rests
    c.requires.whole c.cursor.ensures c.advance.ensures c.in-Err.ensures))
