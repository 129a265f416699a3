use Rattle.std.proofs.Common.{refl}
use Rattle.std.proofs.lemmas.Result.{on_ok_weaker}
use Rattle.trace_explain.proofs.AccountLemmas.{boxes_to, boxes_words}
use Rattle.trace_explain.proofs.write.teller.Teller.tell_whole.Goals as goal

pub returns : goal.returns
returns c = on_ok_weaker c.outcome.result (λ w.
    boxes_words (boxes_to c.in_ok-tell_one.ensures c.begin_if.ensures) refl refl refl
    c.outcome.ensures.joins) c.outcome.ensures.whole
