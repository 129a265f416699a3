use Rattle.std.proofs.lemmas.Result.{on_ok_weaker}
use Rattle.trace_explain.specs.Noted.{ended_by}
use Rattle.trace_explain.specs.Reports.{report_of}
use Rattle.trace_explain.proofs.CarriedLemmas.{carries_one}
use Rattle.trace_explain.proofs.write.teller.Teller.tell_exchange.Goals as goal

pub returns : goal.returns
returns c = λ events before h. on_ok_weaker c.tell_one.result (λ boxes.
    carries_one (report_of c.args.tpdu.now) events before
    (ended_by (report_of c.args.listener.now.under_way)) c.args.self.now c.cut_off.new.self
    c.tell_one.new.self c.cut_off.new.listener
    (c.in_ok-cut_off.ensures.noted events before h) c.in_ok-cut_off.ensures.left
    c.in_ok-cut_off.ensures.shown boxes) c.tell_one.ensures
