use Rattle.std.proofs.Common.{sym}
use Rattle.t0_core.proofs.CardTakingLemmas.{one_taken_more}
use Rattle.t0_core.proofs.HistoryLemmas.{terminal_is_due}
use Rattle.t0_core.proofs.card_end.CardEnd.take_bytes.Goals as goal

pub loop-at-preserved : goal.loop-at-preserved
loop-at-preserved g c =
    let e = c.in-Ok.ensures in
    one_taken_more g.C.TpduCard c.args.self.now c.loop-at.self c.take.new.self c.args.bytes.now
    c.loop-at.at c.loop-at-test.true c.loop-at.invariant (record {
      listening = sym e.listening;
      taken = e.taken;
      falls = e.falls;
      goes_on = λ cut front next stands goes.
          let on = e.goes_on cut front next stands goes in (on.1, on.2);
      led = e.led;
      led_under = e.led_under;
    })

pub returns-in_default-clause-due : goal.returns-in_default-clause-due
returns-in_default-clause-due g c =
    let card = g.C.TpduCard in
    let end = c.take.new.self in
    λ cut byte front new stands goes. terminal_is_due card.Does (card.standing end.card)
    (card.prepared end.card) end.stage cut byte front new stands goes

pub returns-clause-due : goal.returns-clause-due
returns-clause-due g c =
    let card = g.C.TpduCard in
    let end = c.loop-at.self in
    λ cut byte front new stands goes. terminal_is_due card.Does (card.standing end.card)
    (card.prepared end.card) end.stage cut byte front new stands goes
