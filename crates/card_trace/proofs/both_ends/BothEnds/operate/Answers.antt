use Rattle.std.proofs.Common.{sym, ap, ◌∙◌}
use Rattle.std.proofs.lemmas.Result.{IfOk-weaker}
use Rattle.t0_core.specs.Plan.{Cursor}
use Rattle.card_terminal.specs.Operations.{operation_of}
use Rattle.card_trace.specs.PrintedText.{printed_text}
use Rattle.card_trace.proofs.PlayLemmas.{was_busy, ran}
use Rattle.card_trace.proofs.both_ends.BothEnds.operate.Goals as goal

pub returns-then-not-is_idle : goal.returns-then-not-is_idle
returns-then-not-is_idle g c =
    was_busy _ _ _ (operation_of c.args.op.now)
    (sym c.is_idle.ensures.idle ∙ c.if-not-is_idle.true) c.clear.ensures.items

pub returns : goal.returns
returns g c =
    IfOk-weaker c.lines_of.result _ _ (λ printed lines.
    ran c.args.self.now.session.state c.operate.new.self.state c.args.self.now.plans.items
    c.over-cursor.result.rest _ c.clear-2.new.self.items (operation_of c.args.op.now)
    c.in_ok-answer.answer c.new-recorder.result _ (printed_text printed)
    (ap (λ (p : Cursor). p.rest) c.over-cursor.ensures ∙ c.deref.ensures.value)
    c.clear-2.ensures.items c.new-recorder.ensures
    (sym c.is_idle.ensures.idle ∙ c.if-not-is_idle.false) c.in_ok-answer.ensures.talk
    lines.0 lines.1) c.lines_of.ensures
