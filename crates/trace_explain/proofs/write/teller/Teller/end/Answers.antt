use Rattle.std.proofs.Common.{refl}
use Rattle.std.proofs.lemmas.Result.{on_ok_weaker}
use Rattle.trace_explain.proofs.AccountLemmas.{boxes_from, boxes_words}
use Rattle.trace_explain.proofs.write.teller.Teller.end.Goals as goal

pub returns : goal.returns
returns c = on_ok_weaker c.outcome.result (λ w.
    boxes_words (boxes_from c.tell_part.ensures c.in_ok-cut_off.ensures.shown) refl refl refl
    c.outcome.ensures.joins) c.outcome.ensures.whole
