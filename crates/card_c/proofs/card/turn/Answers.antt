use Rattle.std.proofs.Common.{ℤ, refl, sym, subst, inr}
use Rattle.t0_core.specs.CardSide.{EndOf}
use Rattle.object_card.specs.CardView.{CardView}
use Rattle.card_c.specs.declared.card_side.CardSide.{CardSide}
use Rattle.card_c.specs.declared.card_side.CardSide.TheVariants.{Standing}
use Rattle.card_c.specs.Codes.{gt_sends}
use Rattle.card_c.specs.CardCalls.{Turns, TurnsEnd}
use Rattle.card_c.proofs.BufferLemmas.{driven}
use Rattle.card_c.proofs.OwnLemmas.{other_turns}
use Rattle.card_c.proofs.CodeLemmas.{as_it_is}
use Rattle.card_c.proofs.card.turn.Goals as goal

pub returns-in-Some : goal.returns-in-Some
returns-in-Some c =
    let end = c.next_data.new.self in let plans = c.in-Standing.plans in
    subst (λ (s : CardSide). Turns c.args.byte.now c.in-Some.sent s gt_sends (Standing end plans))
    (sym c.in-Standing.is)
    (end, plans, refl, inr (refl, driven plans _ end c.in-Some.sent c.in-Some.ensures))

pub returns : goal.returns
returns c =
    let code = c.turn_other.result in
    let end = c.turn_other.new.end in let plans = c.turn_other.new.plans in
    let byte = c.turn_other.new.byte in
    let before = c.args.byte.now in
    subst (λ (z : ℤ). Turns before byte c.args.side.now z (Standing end plans))
    (sym (as_it_is code c.turn_other.type_inv))
    (subst (λ (s : CardSide). Turns before byte s code (Standing end plans))
    (sym c.in-Standing.is) (
      end,
      plans,
      refl,
      subst (λ (e : EndOf CardView). TurnsEnd e c.in-Standing.plans before byte code end plans)
          c.in_default-next_data.ensures.1 c.turn_other.ensures,
    ))

pub returns-in_default : goal.returns-in_default
returns-in_default c =
    let code = c.turn_own.result in
    subst (λ (z : ℤ). Turns c.args.byte.now c.turn_own.new.byte c.args.side.now z
    c.turn_own.new.side) (sym (as_it_is code c.turn_own.type_inv))
    (other_turns c.args.byte.now c.turn_own.new.byte c.args.side.now code c.turn_own.new.side
    (λ end plans is. c.in_default.not-Standing end plans is) c.turn_own.ensures)
