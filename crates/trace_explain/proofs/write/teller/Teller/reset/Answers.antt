use Rattle.std.proofs.Common.{refl}
use Rattle.std.proofs.lemmas.Result.{on_ok_weaker}
use Rattle.trace_explain.proofs.AccountLemmas.{boxes_from, boxes_to, boxes_words}
use Rattle.trace_explain.proofs.write.teller.Teller.reset.Goals as goal

pub returns-clause-shown : goal.returns-clause-shown
returns-clause-shown c = on_ok_weaker c.outcome.result (λ w.
    boxes_words (boxes_to (boxes_from c.tell_part.ensures c.in_ok-cut_off.ensures.shown)
    c.tell_reset.ensures) refl refl refl c.outcome.ensures.joins) c.outcome.ensures.whole
