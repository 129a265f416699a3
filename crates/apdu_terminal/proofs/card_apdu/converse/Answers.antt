use Rattle.std.proofs.Common.{arith, rules, sym}
use Rattle.apdu_terminal.specs.CardApdu.{GoesAs}
use Rattle.apdu_terminal.proofs.CardLemmas.{goes_alone, one_failed, one_had, one_stalled, pair_is}
use Rattle.apdu_terminal.proofs.card_apdu.converse.Goals as goal

pub sent-requires-clause-tpdu : goal.sent-requires-clause-tpdu
sent-requires-clause-tpdu g c =
    let (command, first, few, come) = c.requires.come in
    goes_alone g.C.TpduCard.Does command first _ c.talk.exchange c.in-Some.due
    (sym c.in-Some.ensures) (c.talk.invariant.4 command first few come)

pub returns-in-Err-clause-come : goal.returns-in-Err-clause-come
returns-in-Err-clause-come g c = λ command first few come.
    one_failed g.C.TpduCard command first _ _ c.talk.exchange c.in-Err.fault c.in-Some.due
    (sym c.in-Some.ensures) c.in-Err.ensures.goes.0 c.in-Err.ensures.goes.1
    (c.talk.invariant.4 command first few come)

pub talk-preserved : goal.talk-preserved
talk-preserved g c = (
  search rules,
  search rules,
  search rules,
  search rules,
  λ command first few come.
      one_had (GoesAs g.C.TpduCard.Does) _ _ first _ _ c.talk.exchange c.responded.new.self _
      (pair_is (GoesAs g.C.TpduCard.Does) _ _ c.talk.exchange _ _ _ c.in-Some.due
      (sym c.in-Some.ensures) c.bytes.ensures.value c.in-Ok.ensures.goes.0)
      (λ pairs led. c.in-Ok-responded.ensures.responding.led _ _ pairs led)
      (c.talk.invariant.4 command first few come),
)

pub returns-in-Err-responded-clause-come : goal.returns-in-Err-responded-clause-come
returns-in-Err-responded-clause-come g c = λ command first few come.
    one_stalled g.C.TpduCard command first _ _ c.talk.exchange c.responded.new.self _ _ _
    c.in-Some.due c.in-Err-responded.fault (sym c.in-Some.ensures) c.bytes.ensures.value
    (pair_is (GoesAs g.C.TpduCard.Does) _ _ c.talk.exchange _ _ _ c.in-Some.due
    (sym c.in-Some.ensures) c.bytes.ensures.value c.in-Ok.ensures.goes.0) c.in-Ok.ensures.goes.1
    (omega (arith, few, c.requires.room.0, c.talk.invariant.2))
    c.responded.ensures.responding.limit c.in-Err-responded.ensures.responding.fault
    c.in-Err-responded.ensures.responding.failed
    (λ pairs led. c.in-Err-responded.ensures.responding.led _ _ pairs led)
    (c.talk.invariant.4 command first few come)
