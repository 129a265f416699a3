-- A plan has steps and a cut.
use Rattle.std.proofs.Common.{◌≡◌, List}
use Rattle.t0_core.specs.declared.plan.Step.{Step}
use Rattle.card_trace.specs.declared.script.reason.LineReason.{LineReason}
use Rattle.card_trace.specs.declared.script.reason.LineReason.TheVariants.{BadPlan}
use Rattle.card_trace.specs.ScriptFields.{IsStepsText}
use Rattle.card_trace.specs.NoFields.{NoPlan}
use Rattle.card_trace.proofs.ScriptRefusalLemmas.{passed_on}
use Rattle.card_trace.proofs.script.fields.read_plan.Goals as goal

pub returns-in_err-steps-clause-refused : goal.returns-in_err-steps-clause-refused
returns-in_err-steps-clause-refused g c =
    let P : LineReason → Type 0 = λ reason. (reason ≡ BadPlan) × ((steps : List Step)
    → IsStepsText c.args.steps.now steps → ⊥) in
    let Q : LineReason → Type 0 = λ reason. NoPlan c.args.steps.now c.args.cut.now reason in
    passed_on c.from_residual.result c.in_err-steps.field-0.0 P Q c.from_residual.ensures.1
    (λ _ no. (no.0, λ plan h. no.1 plan.steps h.steps)) c.in_err-steps.ensures.refused
