use Rattle.std.proofs.Common.{refl, subst, sym, ℤ}
use Rattle.std.specs.Prelude.{⊤, if◌then◌else◌}
use Rattle.t1_core.specs.declared.pcb.BlockReason.{BlockReason}
use Rattle.t1_core.specs.declared.pcb.BlockReason.TheVariants as reason
use Rattle.card_c.specs.declared.card_side.CardSide.{CardSide}
use Rattle.card_c.specs.declared.card_side.CardSide.TheVariants.{OwnAtT1}
use Rattle.card_c.specs.CardT1Calls.{Misses, OnLine}
use Rattle.card_c.specs.OwnT1.{MissesOwn}
use Rattle.card_c.proofs.CodeLemmas.{as_it_is}
use Rattle.card_c.proofs.card_t1.misses.Goals as goal

pub returns-in-OwnAtT1 : goal.returns-in-OwnAtT1
returns-in-OwnAtT1 c =
    let code = c.misses_own.result in let next = c.misses_own.new.at in
    let why : BlockReason = if c.args.is_damaged then reason.Edc else reason.Other in
    let Missed : CardSide → ℤ → Type 0 =
    λ s z. OnLine (Misses why) (MissesOwn why) ⊤ s z (OwnAtT1 next) in
    subst (λ (z : ℤ). Missed c.args.side.now z) (sym (as_it_is code c.misses_own.type_inv))
    (subst (λ (s : CardSide). Missed s code) (sym c.in-OwnAtT1.is)
    (next, refl, c.misses_own.ensures))
