use Rattle.trace_explain.proofs.AccountLemmas.{boxes_from, boxes_stay}
use Rattle.trace_explain.proofs.ExplainedLemmas.{ok_too}
use Rattle.trace_explain.proofs.write.teller.Teller.hear_run.Goals as goal

pub returns-clause-boxes : goal.returns-clause-boxes
returns-clause-boxes c = ok_too c.hear_run.result _ (boxes_from c.begin_if.ensures boxes_stay)
