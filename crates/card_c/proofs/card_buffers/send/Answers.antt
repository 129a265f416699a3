use Rattle.std.proofs.Common.{ℤ, sym, subst}
use Rattle.card_c.specs.BufferCalls.{CardSends}
use Rattle.card_c.proofs.CodeLemmas.{as_it_is}
use Rattle.card_c.proofs.OwnLemmas.{other_sends}
use Rattle.card_c.proofs.card_buffers.send.Goals as goal

pub returns-in_default : goal.returns-in_default
returns-in_default c =
    let a = c.args in let code = c.send_own.result in let new = c.send_own.new in
    subst (λ (z : ℤ). CardSends a.bytes.now a.count.now new.bytes new.count a.side.now z new.side)
    (sym (as_it_is code c.send_own.type_inv))
    (other_sends a.bytes.now a.count.now new.bytes new.count a.side.now code new.side
    (λ end plans is. c.in_default.not-Standing end plans is) c.send_own.ensures)
