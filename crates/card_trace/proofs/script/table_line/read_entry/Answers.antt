-- An entry is a tag and a value.
use Rattle.std.proofs.Common.{inr, ℕ, List, sym, subst}
use Rattle.card_trace.specs.declared.script.reason.LineReason.{LineReason}
use Rattle.card_trace.specs.ScriptWords.{words_in}
use Rattle.card_trace.specs.ScriptFields.{IsValueText}
use Rattle.card_trace.specs.NoFields.{NoValue, NoEntry}
use Rattle.card_trace.proofs.ScriptRefusalLemmas.{passed_on}
use Rattle.card_trace.proofs.script.table_line.read_entry.Goals as goal

pub returns-in_err-value-clause-refused : goal.returns-in_err-value-clause-refused
returns-in_err-value-clause-refused g c =
    let P : LineReason → Type 0 = λ reason. NoValue c.in_ok-tag.value.now reason in
    let Q : LineReason → Type 0 = λ reason. NoEntry (words_in c.args.rest.now) reason in
    passed_on c.from_residual-in_err-value.result c.in_err-value.field-0.0 P Q
    c.from_residual-in_err-value.ensures.1
    (λ _ no. inr (
      c.in_ok-tag.tag.now,
      c.in_ok-tag.value.now,
      c.in_ok-tag.ensures,
      inr (c.in_ok-tag-2.tag, c.in_ok-tag-2.ensures.ok, no),
    ))
    c.in_err-value.ensures.refused

pub returns-clause-ok : goal.returns-clause-ok
returns-clause-ok g c =
    let P : List ℕ → Type 0 = λ value. IsValueText c.in_ok-tag.value.now value in
    record {
      tag_text = c.in_ok-tag.tag.now;
      value_text = c.in_ok-tag.value.now;
      two = c.in_ok-tag.ensures;
      is_tag = c.in_ok-tag-2.ensures.ok;
      is_value = subst P (sym c.new.ensures) c.in_ok-value.ensures.ok;
    }
