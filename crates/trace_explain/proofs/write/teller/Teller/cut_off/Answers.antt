use Rattle.std.proofs.Common.{◌∙◌, sym, true, false}
use Rattle.std.proofs.lemmas.Result.{on_ok_weaker}
use Rattle.trace_explain.specs.Reports.{report_of}
use Rattle.trace_explain.proofs.AccountLemmas.{boxes_as, boxes_stay, ended_is}
use Rattle.trace_explain.proofs.write.teller.Teller.cut_off.Goals as goal

pub returns-then-is_empty-clause-shown : goal.returns-then-is_empty-clause-shown
returns-then-is_empty-clause-shown c =
    boxes_as (sym (ended_is (report_of c.args.listener.now.under_way)
    (report_of c.reset-part.result)
    true c.reset-part.ensures.part (sym c.is_empty.ensures ∙ c.if-is_empty.true))) boxes_stay

pub returns-clause-shown : goal.returns-clause-shown
returns-clause-shown c = on_ok_weaker c.tell_one.result (λ h.
    boxes_as (sym (ended_is (report_of c.args.listener.now.under_way)
    (report_of c.reset-part.result)
    false c.reset-part.ensures.part (sym c.is_empty.ensures ∙ c.if-is_empty.false))) h)
    c.tell_one.ensures
