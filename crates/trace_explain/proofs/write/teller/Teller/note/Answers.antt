use Rattle.std.proofs.Common.{refl}
use Rattle.std.proofs.lemmas.Result.{on_ok_weaker}
use Rattle.trace_explain.proofs.AccountLemmas.{boxes_from, boxes_none}
use Rattle.trace_explain.proofs.write.teller.Teller.note.Goals as goal

pub returns : goal.returns
returns c = on_ok_weaker c.outcome.result
    (λ w. boxes_from c.keep_first.ensures (boxes_none refl refl refl c.outcome.ensures.joins))
    c.outcome.ensures.whole
