use Rattle.std.proofs.Common.{◌≡◌, ◌∷◌, [], ◌++◌, true, false, Bool, refl, sym, ap, ◌∙◌, subst}
use Rattle.std.specs.Prelude.{if◌then◌else◌}
use Rattle.t0_core.specs.declared.end.End.TheVariants.{Card}
use Rattle.t0_core.specs.declared.card_end.Turn.{Turn}
use Rattle.t0_core.specs.CardHistory.{IsTakenLast}
use Rattle.t0_core.specs.CardSide.{takes_plan}
use Rattle.t0_core.specs.Plan.{Cursor, advanced, plan_kept}
use Rattle.card_c.specs.OwnCalls.{OwnLedUnder}
use Rattle.card_c.proofs.own.next_other.Goals as goal

is_false : (b : Bool) → (b ≡ true → ⊥) → b ≡ false
is_false true fails = absurd (fails refl)
is_false false fails = refl

pub returns : goal.returns
returns c =
    let e = c.in-Sends.ensures in let stage = c.args.end.now.stage in
    let plans = c.args.plans.now in let left = c.advance_if.new.self in
    let left_is : left ≡ (if takes_plan stage then advanced plans else plans) =
    c.advance_if.ensures ∙ ap (λ (b : Bool). if b then advanced plans else plans)
    c.takes_plan-takes_plan.ensures in
    let same : c.turn.new.plans ≡ left = e.plan
    ∙ ap (λ (p : Cursor). if takes_plan stage then advanced p else p) c.cursor.ensures
    ∙ sym left_is in (
      is_false _ (λ h. let never : Turn.Sends c.in-Sends.byte
          ≡ Turn.Listens = e.whose.1 h in absurd (cc)),
      left_is,
      (λ first events led. e.led first events c.in-Sends.byte refl led),
      (λ first came taken led last.
          subst (λ (p : Cursor). OwnLedUnder first (came ++ (Card, c.in-Sends.byte) ∷ [])
          (if takes_plan stage then taken ++ plan_kept p ∷ [] else taken) c.turn.new.self) same
          (e.led_under first came taken c.in-Sends.byte refl led
          (λ same_plan. subst (λ (p : Cursor). IsTakenLast (plan_kept p) taken)
          (sym c.cursor.ensures) (last same_plan)))),
    )
