use Rattle.std.proofs.Common.{ap, refl, subst}
use Rattle.t0_core.specs.Plan.{Cursor}
use Rattle.object_card.specs.CardView.{CardView}
use Rattle.object_card.specs.Builder.{new_card}
use Rattle.card_trace.specs.CardScripts.{no_past}
use Rattle.card_trace.specs.CardPlaying.{IsReady, end_at}
use Rattle.card_trace.proofs.CardLemmas.{ready_made}
use Rattle.card_trace.proofs.lone_card.LoneCardRunner.of.Goals as goal

pub returns : goal.returns
returns g c =
    let end = c.new.result in
    let plans = c.of-2.result in
    let ready = subst (λ (v : CardView). IsReady (no_past v.state) (end, plans))
    c.in_ok-card.ensures
    (ready_made c.in_ok-card.card.state end plans (ap (λ e. e.stage) c.new.ensures.fresh)
    c.new.ensures.led c.new.ensures.led_under) in
    let past = no_past (new_card c.args.table.builder).state in (
      record { answer = c.of.result; end = end_at past (end, plans) },
      (
        c.of.ensures,
        record {
          past_is = refl;
          all_left = ap (λ (p : Cursor). p.rest) c.of-2.ensures;
          is_led = ready.led;
        },
      ),
      (past, ready, refl),
    )
