use Rattle.std.proofs.Common.{refl}
use Rattle.apdu_terminal.proofs.CardLemmas.{begins_so, finished, may_be_few, responds_within}
use Rattle.apdu_terminal.proofs.card_apdu.carry_out.Goals as goal

pub converse-requires-clause-come : goal.converse-requires-clause-come
converse-requires-clause-come g c = (
  c.args.command,
  g.C.TpduCard.standing c.args.end.now.card,
  may_be_few c.args.command.content c.args.command.le c.le.ensures.command.sizes,
  begins_so g.C.TpduCard.Does _ c.args.command c.without_le-first.result _ c.le.result
      c.unwrap_or.result _ c.without_le-first.ensures c.le.ensures.value c.unwrap_or.ensures refl
      c.begin-exchange.ensures.led,
)

pub returns-clause-responds : goal.returns-clause-responds
returns-clause-responds g c =
    finished g.C.TpduCard.Does c.args.command _ _ _
    (c.in_ok-converse.ensures.come c.args.command _
    (may_be_few c.args.command.content c.args.command.le c.le.ensures.command.sizes)
    (begins_so g.C.TpduCard.Does _ c.args.command c.without_le-first.result _ c.le.result
    c.unwrap_or.result _ c.without_le-first.ensures c.le.ensures.value c.unwrap_or.ensures refl
    c.begin-exchange.ensures.led)) c.in_ok-converse.ensures.over

pub returns-clause-within : goal.returns-clause-within
returns-clause-within g c =
    let (status, done, responds) = returns-clause-responds g c in
    responds_within g.C.TpduCard.Does _ _ _ responds
