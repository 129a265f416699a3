use Rattle.std.proofs.Common.{◌≡◌, refl, subst, sym, ℤ}
use Rattle.card_c.specs.declared.card_side.CardSide.{CardSide}
use Rattle.card_c.specs.declared.card_side.CardSide.TheVariants.{OwnAtT1}
use Rattle.card_c.specs.CardT1Calls.{OnLine, SendsReply}
use Rattle.card_c.specs.OwnT1.{SendsOwn}
use Rattle.card_c.proofs.CodeLemmas.{as_it_is}
use Rattle.card_c.proofs.card_t1.send.Goals as goal

pub returns-in-OwnAtT1 : goal.returns-in-OwnAtT1
returns-in-OwnAtT1 c =
    let code = c.send_own.result in let next = c.send_own.new.at in
    let room = c.args.bytes.now in let n = c.args.count.now in
    let room' = c.send_own.new.bytes in let n' = c.send_own.new.count in
    let Sent : CardSide → ℤ → Type 0 =
    λ s z. OnLine (SendsReply room n room' n') (SendsOwn room n room' n')
    ((room' ≡ room) × (n' ≡ n)) s z (OwnAtT1 next) in
    subst (λ (z : ℤ). Sent c.args.side.now z) (sym (as_it_is code c.send_own.type_inv))
    (subst (λ (s : CardSide). Sent s code) (sym c.in-OwnAtT1.is) (next, refl, c.send_own.ensures))
