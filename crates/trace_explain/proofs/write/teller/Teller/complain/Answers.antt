use Rattle.std.proofs.Common.{refl}
use Rattle.std.proofs.lemmas.Result.{on_ok_weaker}
use Rattle.trace_explain.proofs.AccountLemmas.{boxes_words}
use Rattle.trace_explain.proofs.write.teller.Teller.complain.Goals as goal

pub returns-clause-shown : goal.returns-clause-shown
returns-clause-shown c = on_ok_weaker c.outcome.result (λ w.
    boxes_words c.in_ok-cut_off.ensures.shown refl refl c.lose_some.ensures c.outcome.ensures.joins)
    c.outcome.ensures.whole
