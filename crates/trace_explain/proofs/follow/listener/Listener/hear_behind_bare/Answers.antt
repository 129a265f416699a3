use Rattle.std.proofs.Common.{ap, sym, ◌∙◌}
use Rattle.std.specs.Result.{result_err}
use Rattle.trace_explain.specs.Reports.{report_of}
use Rattle.trace_explain.specs.Noted.{bared}
use Rattle.trace_explain.proofs.NotedLemmas.{header_refused, hears_behind}
use Rattle.trace_explain.proofs.follow.listener.Listener.hear_behind_bare.Goals as goal

pub returns-in_ok-note-in-Ok-clause-noted : goal.returns-in_ok-note-in-Ok-clause-noted
returns-in_ok-note-in-Ok-clause-noted c = λ events before n.
    hears_behind events before c.bared-whole.result c.args.self.now c.cut.new.self _ c.in-Ok.heard
    c.args.byte c.args.mark n c.requires.bare c.requires.status
    (c.cut.ensures.tap ∙ c.reset.ensures.afresh)
    c.cut.ensures.left
    (c.bared-whole.ensures ∙ ap (λ t. bared (report_of t)) c.cut.ensures.cut)
    (rw c.in_ok-note-in-Ok.ensures.tap c.in-Ok.ensures.led) c.in-Ok.ensures.taken.0
    c.in_ok-note-in-Ok.ensures.noted

pub returns-in-Err-clause-wants : goal.returns-in-Err-clause-wants
returns-in-Err-clause-wants c =
    absurd (header_refused c.cut.new.self.tap c.args.byte c.in-Err.fault
    (c.cut.ensures.tap ∙ c.reset.ensures.afresh)
    (ap result_err (sym c.in-Err.is) ∙ c.hear.ensures.fault))
