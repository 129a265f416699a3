-- A line with a reason says nothing.
use Rattle.std.proofs.Common.{refl}
use Rattle.card_trace.specs.declared.script.reason.LineReason.{LineReason}
use Rattle.card_trace.specs.ScriptWords.{words_in}
use Rattle.card_trace.specs.ScriptCard.{NoPart, NoAct}
use Rattle.card_trace.proofs.ScriptCardLemmas.{IsDenied, is_of_none, table_line_denied, run_line_denied}
use Rattle.card_trace.proofs.ScriptRefusalLemmas.{passed_on}
use Rattle.card_trace.proofs.lone_card.LoneCardRunner.read.Goals as goal

pub returns-in_err-read_part-in-Adds-clause-refused :
    goal.returns-in_err-read_part-in-Adds-clause-refused
returns-in_err-read_part-in-Adds-clause-refused g c =
    let fields = words_in c.args.rest.now in
    let P : LineReason → Type 0 = λ reason. NoPart c.args.keyword fields reason in
    let Q : LineReason → Type 0 = λ reason. IsDenied c.args.section c.args.keyword fields reason in
    passed_on c.from_residual-in_err-read_part-in-Adds.result
    c.in_err-read_part-in-Adds.field-0.0 P Q
    c.from_residual-in_err-read_part-in-Adds.ensures.1
    (table_line_denied c.args.section c.args.keyword fields c.in-Adds.is
    (c.in_ok-takes_table_line-in-Adds.ensures.ok.0 refl))
    c.in_err-read_part-in-Adds.ensures.refused

pub returns-in_err-read_act-in_default-clause-refused :
    goal.returns-in_err-read_act-in_default-clause-refused
returns-in_err-read_act-in_default-clause-refused g c =
    let fields = words_in c.args.rest.now in
    let P : LineReason → Type 0 = λ reason. NoAct c.args.keyword fields reason in
    let Q : LineReason → Type 0 = λ reason. IsDenied c.args.section c.args.keyword fields reason in
    passed_on c.from_residual-in_err-read_act-in_default.result
    c.in_err-read_act-in_default.field-0.0 P Q
    c.from_residual-in_err-read_act-in_default.ensures.1
    (run_line_denied c.args.section c.args.keyword fields
    (is_of_none c.args.keyword c.in_default.not-Adds c.in_default.not-Atr c.in_default.not-Plan))
    c.in_err-read_act-in_default.ensures.refused
