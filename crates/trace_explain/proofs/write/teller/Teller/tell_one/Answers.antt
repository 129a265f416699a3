use Rattle.std.proofs.Common.{◌∙◌}
use Rattle.std.proofs.lemmas.Result.{on_ok_weaker}
use Rattle.trace_explain.specs.Reports.{report_of}
use Rattle.trace_explain.proofs.AccountLemmas.{boxes_one}
use Rattle.trace_explain.proofs.write.teller.Teller.tell_one.Goals as goal

pub returns : goal.returns
returns c = on_ok_weaker c.tell_in_command.result (λ h. boxes_one (report_of c.args.tpdu.now)
    c.shown-links.result.number c.tell.new.self.number c.tell.ensures.next
    (c.shown-links.ensures.number ∙ c.in_ok-tell.ensures.number) h) c.tell_in_command.ensures
