use Rattle.std.proofs.Common.{◌≡◌, ◌<◌, ◌⊎◌, [], ◌∷◌, if◌then◌else◌, Bool, ap, sym, ◌∙◌, subst, refl}
use Rattle.t0_core.specs.declared.end.End.TheVariants.{Card}
use Rattle.t0_core.specs.Plan.{Cursor, advanced, plan_kept}
use Rattle.t0_core.specs.CardSide.{Taking_header, takes_plan, listens, still_to_go}
use Rattle.card_trace.specs.CardPlaying.{LeadOn}
use Rattle.card_trace.proofs.CardLemmas.{is_false, lead_turn, hands_out_less}
use Rattle.card_trace.proofs.lone_card.next_of.Goals as goal

pub returns-in-Sends-clause-led : goal.returns-in-Sends-clause-led
returns-in-Sends-clause-led g c =
    let e = c.in-Sends.ensures in
    let old = c.args.end.now in
    let new = c.turn.new.self in
    let plans = c.args.plans.now in
    let left = c.advance_if.new.self in
    let took : left ≡ (if takes_plan old.stage then advanced plans else plans) =
    c.advance_if.ensures ∙ ap (λ (b : Bool). if b then advanced plans else plans)
    c.takes_plan-takes_plan.ensures in
    let same : c.turn.new.plans ≡ left = e.plan
    ∙ ap (λ (p : Cursor). if takes_plan old.stage then advanced p else p) c.cursor.ensures
    ∙ sym took in
    let byte = c.in-Sends.byte in
    subst (λ (p : Cursor). LeadOn (old, plans) ((Card, byte) ∷ []) (new, p)) same
    (subst (λ (p : Cursor). LeadOn (old, p) ((Card, byte) ∷ []) (new, c.turn.new.plans))
    c.cursor.ensures
    (lead_turn old new c.cursor.result c.turn.new.plans byte
    (is_false (listens old.stage) (λ h. cc (e.whose.1 h))) e.plan
    (λ first events. e.led first events byte refl)
    (λ first came taken. e.led_under first came taken byte refl)))

pub returns-in-Sends-clause-falls : goal.returns-in-Sends-clause-falls
returns-in-Sends-clause-falls g c =
    let e = c.in-Sends.ensures in
    let old = c.args.end.now.stage in
    let new = c.turn.new.self.stage in
    let plans = c.args.plans.now in
    let left = c.advance_if.new.self in
    let took : left ≡ (if takes_plan old then advanced plans else plans) =
    c.advance_if.ensures ∙ ap (λ (b : Bool). if b then advanced plans else plans)
    c.takes_plan-takes_plan.ensures in
    let same : c.turn.new.plans ≡ left = e.plan
    ∙ ap (λ (p : Cursor). if takes_plan old then advanced p else p) c.cursor.ensures
    ∙ sym took in
    hands_out_less old new plans left (is_false (listens old) (λ h. cc (e.whose.1 h))) took
    (subst (λ (p : Cursor). (new ≡ Taking_header [])
    ⊎ (still_to_go new (plan_kept p) < still_to_go old (plan_kept p))) same
    (e.falls c.in-Sends.byte refl))
