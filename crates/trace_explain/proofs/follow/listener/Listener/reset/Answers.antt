use Rattle.std.proofs.Common.{◌∙◌, ap}
use Rattle.trace_explain.specs.Noted.{is_bare}
use Rattle.trace_explain.specs.Reports.{report_of}
use Rattle.trace_explain.proofs.NotedLemmas.{reset_noted}
use Rattle.trace_explain.proofs.follow.listener.Listener.reset.Goals as goal

pub returns-clause-noted : goal.returns-clause-noted
returns-clause-noted c = λ events reports noted.
    reset_noted events reports c.args.self.now c.cut.new.self
    noted (c.cut.ensures.tap ∙ c.reset.ensures.afresh) c.cut.ensures.left
    (λ is. rw c.cut.ensures.cut at
    (c.as_ended.ensures.status (ap (λ t. is_bare (report_of t)) c.cut.ensures.cut ∙ is)))
