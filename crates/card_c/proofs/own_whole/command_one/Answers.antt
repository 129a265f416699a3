use Rattle.std.proofs.Common.{ℤ, sym, subst, inl}
use Rattle.t0_core.specs.CardSide.{EndOf}
use Rattle.card_c.specs.OwnCalls.{OwnCard}
use Rattle.card_c.specs.OwnWhole.{OwnCommandOne, TriesBytes}
use Rattle.card_c.proofs.CodeLemmas.{as_it_is}
use Rattle.card_c.proofs.own_whole.command_one.Goals as goal

pub returns-in-Nothing : goal.returns-in-Nothing
returns-in-Nothing c =
    let a = c.args in let own = a.own.now in let went = c.try_bytes-went.result in
    let mid = c.try_bytes-went.new in let new = c.begin.new.own in
    let tries = subst (λ (e : EndOf OwnCard). TriesBytes a.apdu.now a.response.now a.len.now
    mid.response mid.len own.end went e) (sym c.begin.ensures.line.0) c.try_bytes-went.ensures in
    subst (λ (z : ℤ). OwnCommandOne a.apdu.now a.response.now a.len.now mid.response mid.len own z
    new) (sym (as_it_is c.begin.result c.begin.type_inv))
    (inl (went, c.in-Nothing.is, (tries, c.begin.ensures.line.1), c.begin.ensures.begins))
