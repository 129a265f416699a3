use Rattle.std.proofs.Common.{◌++◌, ◌∷◌, [], Option, subst, sym}
use Rattle.trace_explain.specs.declared.follow.listener.Listener.{Listener}
use Rattle.trace_explain.specs.declared.follow.listener.ListenerFault.{ListenerFault}
use Rattle.trace_explain.specs.declared.follow.tpdu.Tpdu.{Tpdu}
use Rattle.trace_explain.specs.Noted.{HasNoted, IsRefused, NoneContinues, Passed}
use Rattle.trace_explain.specs.Reports.{report_of, reports_of}
use Rattle.trace_explain.proofs.AccountLemmas.{boxes_from, boxes_stay}
use Rattle.trace_explain.proofs.write.teller.Teller.hear.Goals as goal

pub returns-in-Ok-None : goal.returns-in-Ok-None
returns-in-Ok-None c = λ events before h.
    let Q : Option Tpdu → Type 0 = λ t.
    HasNoted (events ++ Passed (c.args.from, c.args.byte) c.args.mark ∷ [])
    (before ++ reports_of t) c.hear.new.self in (
      [],
      subst Q c.in-Ok-None.field-0-is (c.in-Ok-None.ensures.noted events before h),
      boxes_from c.begin_if.ensures boxes_stay,
    )

pub returns-in_ok-tell_whole-in-Ok-Some : goal.returns-in_ok-tell_whole-in-Ok-Some
returns-in_ok-tell_whole-in-Ok-Some c = λ events before h.
    let Q : Option Tpdu → Type 0 = λ t.
    HasNoted (events ++ Passed (c.args.from, c.args.byte) c.args.mark ∷ [])
    (before ++ reports_of t) c.hear.new.self in (
      report_of c.in-Ok-Some.tpdu ∷ [],
      subst Q c.in-Ok-Some.field-0-is (c.in-Ok-Some.ensures.noted events before h),
      boxes_from c.begin_if.ensures c.in_ok-tell_whole-in-Ok-Some.ensures,
    )

pub returns-in-Err-NoDialogue : goal.returns-in-Err-NoDialogue
returns-in-Err-NoDialogue c = λ events before h.
    let P : ListenerFault → Type 0 = λ why.
    IsRefused why c.args.listener.now (c.args.from, c.args.byte)
    c.hear.new.self in
    let N : Listener → Type 0 = λ l. NoneContinues l (c.args.from, c.args.byte) in
    let refused = subst P c.in-Err-NoDialogue.field-0-is c.in-Err-NoDialogue.ensures.refused in
    (refused.2, subst N (sym refused.2) refused.0, boxes_from c.begin_if.ensures boxes_stay)
