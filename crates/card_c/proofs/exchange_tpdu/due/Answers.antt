use Rattle.std.proofs.Common.{Option, ℤ, subst, sym}
use Rattle.t0_core.specs.TpduBytes.{Asked, due_by}
use Rattle.card_c.specs.TpduCalls.{TellsTpdu}
use Rattle.card_c.proofs.CodeLemmas.{as_it_is}
use Rattle.card_c.proofs.exchange_tpdu.due.Goals as goal

pub returns-clause-told : goal.returns-clause-told
returns-clause-told c = λ _.
    let P : Option Asked → Type 0 =
    λ due. TellsTpdu due c.args.tpdu.now c.args.len.now c.args.most.now c.told.result
    c.told.new.tpdu c.told.new.len c.told.new.most in
    let Q : ℤ → Type 0 =
    λ code. TellsTpdu (due_by c.args.side.now.exchange.host) c.args.tpdu.now c.args.len.now
    c.args.most.now code c.told.new.tpdu c.told.new.len c.told.new.most in
    subst Q (sym (as_it_is c.told.result c.told.type_inv))
    (subst P c.tpdu.ensures.due c.told.ensures)
