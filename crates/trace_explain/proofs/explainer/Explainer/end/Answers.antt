use Rattle.std.proofs.Common.{◌∙◌, refl, sym}
use Rattle.std.proofs.lemmas.Result.{on_ok_weaker}
use Rattle.trace_explain.proofs.AccountLemmas.{boxes_both, boxes_cut, boxes_none}
use Rattle.trace_explain.proofs.explainer.Explainer.end.Goals as goal

pub returns-then-is_err-clause-adds : goal.returns-then-is_err-clause-adds
returns-then-is_err-clause-adds c = λ chars.
    boxes_cut c.outcome.result refl refl c.outcome.ensures.joins
    (sym c.is_err.ensures.value ∙ c.if-is_err.true) c.outcome.ensures.cut

pub returns-clause-adds : goal.returns-clause-adds
returns-clause-adds c = λ chars. on_ok_weaker c.end-3.result
    (λ h. boxes_both (boxes_none refl refl refl c.outcome.ensures.joins) h) c.end-3.ensures
