use Rattle.std.proofs.Common.{refl}
use Rattle.std.proofs.lemmas.Result.{IfErr-weaker, on_ok_weaker}
use Rattle.trace_explain.proofs.AccountLemmas.{boxes_from, boxes_stay}
use Rattle.trace_explain.proofs.ExplainedLemmas.{explains_from, leaves_from, line_refused}
use Rattle.trace_explain.proofs.explainer.Explainer.line.Goals as goal

pub returns-in-Ok-clause-explained : goal.returns-in-Ok-clause-explained
returns-in-Ok-clause-explained c = λ events before h.
    on_ok_weaker c.take.result
    (λ (more, leads, explains). (
      more,
      rw (c.number-self.ensures, c.saturating_add-self.ensures) at leads,
      explains_from (boxes_from c.pass.ensures boxes_stay) explains,
    ))
    (c.take.ensures.explained events before c.in-Ok.ensures.says h)

pub returns-in-Ok-clause-stops : goal.returns-in-Ok-clause-stops
returns-in-Ok-clause-stops c = λ events before h.
    IfErr-weaker c.take.result _ _
    (λ f stops. leaves_from f _ _ _ events before _ _ _ _ (boxes_from c.pass.ensures boxes_stay)
    (rw (c.number-self.ensures, c.saturating_add-self.ensures) at stops))
    (c.take.ensures.stops events before c.in-Ok.ensures.says h)

pub returns-in-Err-clause-stops : goal.returns-in-Err-clause-stops
returns-in-Err-clause-stops c = λ events before h.
    rw c.refused.ensures (line_refused c.in-Err.why _ _ events before c.args.self.now _ h
    c.in-Err.ensures.refused c.saturating_add-self.ensures (boxes_from c.pass.ensures boxes_stay)
    refl refl)
