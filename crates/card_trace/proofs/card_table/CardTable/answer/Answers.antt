use Rattle.std.proofs.Common.{sym, ap, ◌∙◌, refl}
use Rattle.atr_core.specs.FirstFault.{first_fault}
use Rattle.card_trace.specs.declared.script.reason.LineReason.TheVariants.{BadAtr}
use Rattle.card_trace.specs.AnswerToReset.{RefusesAnswer}
use Rattle.card_trace.proofs.ScriptFaultLemmas.{fault_passed}
use Rattle.card_trace.proofs.card_table.CardTable.answer.Goals as goal

pub returns-in_err-read-clause-refused : goal.returns-in_err-read-clause-refused
returns-in_err-read-clause-refused g c =
    let fault = c.in_err-read.field-0.0 in
    fault_passed c.from_residual.result (BadAtr fault)
    (RefusesAnswer c.args.self.now.answer c.args.answer) c.from_residual.ensures.1
    (ap first_fault (sym c.bytes.ensures) ∙ (c.in_err-read.ensures.fault fault).0 refl)
