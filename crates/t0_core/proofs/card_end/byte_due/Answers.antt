use Rattle.std.proofs.Common.{◌∙◌}
use Rattle.t0_core.proofs.CardSendingLemmas.{one_due}
use Rattle.t0_core.proofs.card_end.byte_due.Goals as goal

pub returns : goal.returns
returns g c = λ came.
    one_due g.C.TpduCard c.args.card.now c.args.phase.now c.in-Accepted.service came _
    c.byte.result c.in-Accepted.is (λ none. c.if-due-eq0.false (c.due.ensures ∙ none))
    c.moved.ensures c.byte.ensures
