use Rattle.std.proofs.Common.{◌∙◌}
use Rattle.std.proofs.lemmas.Result.{on_ok_weaker}
use Rattle.trace_explain.specs.Noted.{ended_by}
use Rattle.trace_explain.specs.Reports.{report_of}
use Rattle.trace_explain.proofs.explainer.Explainer.reset.Goals as goal

pub returns-clause-explained : goal.returns-clause-explained
returns-clause-explained c = λ events before h.
    on_ok_weaker c.reset.result (λ boxes. record {
      reports = ended_by (report_of c.args.self.now.listener.under_way);
      explained = (
        c.reset.ensures.noted events before h.0,
        (c.end.ensures.resumes ∙ h.1.0, c.end.ensures.none, h.1.2),
      );
      boxes = boxes;
    }) c.reset.ensures.shown
