use Rattle.std.proofs.Common.{◌≡◌, refl, subst, sym, ℤ}
use Rattle.card_c.specs.declared.card_side.CardSide.{CardSide}
use Rattle.card_c.specs.declared.card_side.CardSide.TheVariants.{OwnAtT1}
use Rattle.card_c.specs.CardT1Calls.{HearsBytes, OnLine}
use Rattle.card_c.specs.OwnT1.{HearsOwn}
use Rattle.card_c.proofs.CodeLemmas.{as_it_is}
use Rattle.card_c.proofs.card_t1.receive.Goals as goal

pub returns-in-OwnAtT1 : goal.returns-in-OwnAtT1
returns-in-OwnAtT1 c =
    let code = c.receive_own.result in let next = c.receive_own.new.at in
    let bytes = c.args.bytes.now in let n' = c.receive_own.new.count in
    let Heard : CardSide → ℤ → Type 0 =
    λ s z. OnLine (HearsBytes bytes n') (HearsOwn bytes n') (n' ≡ c.args.count.now) s z
    (OwnAtT1 next) in
    subst (λ (z : ℤ). Heard c.args.side.now z) (sym (as_it_is code c.receive_own.type_inv))
    (subst (λ (s : CardSide). Heard s code) (sym c.in-OwnAtT1.is)
    (next, refl, c.receive_own.ensures))
