use Rattle.std.proofs.Common.{subst, sym, ℤ}
use Rattle.card_c.specs.BufferCalls.{CardReceives}
use Rattle.card_c.proofs.OwnLemmas.{other_receives}
use Rattle.card_c.proofs.CodeLemmas.{as_it_is}
use Rattle.card_c.proofs.card_buffers.receive.Goals as goal

pub returns-in_default : goal.returns-in_default
returns-in_default c =
    let code = c.receive_own.result in
    subst (λ (z : ℤ). CardReceives c.args.bytes.now c.args.count.now c.receive_own.new.count
    c.args.side.now z c.receive_own.new.side) (sym (as_it_is code c.receive_own.type_inv))
    (other_receives c.args.bytes.now c.args.count.now c.receive_own.new.count c.args.side.now code
    c.receive_own.new.side
    (λ end plans is. c.in_default.not-Standing end plans is) c.receive_own.ensures)
