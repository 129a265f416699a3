-- The text of a command is HEX.
use Rattle.std.proofs.Common.{inl}
use Rattle.card_trace.specs.declared.script.reason.LineReason.{LineReason}
use Rattle.card_trace.specs.NoFields.{NoHex, NoCommand}
use Rattle.card_trace.proofs.ScriptRefusalLemmas.{passed_on}
use Rattle.card_trace.proofs.script.fields.read_command.Goals as goal

pub returns-in_err-bytes-clause-refused : goal.returns-in_err-bytes-clause-refused
returns-in_err-bytes-clause-refused g c =
    let P : LineReason → Type 0 = λ reason. NoHex c.args.text.now reason in
    let Q : LineReason → Type 0 = λ reason. NoCommand c.args.text.now reason in
    passed_on c.from_residual.result c.in_err-bytes.field-0.0 P Q c.from_residual.ensures.1
    (λ _ no. inl no) c.in_err-bytes.ensures.refused
