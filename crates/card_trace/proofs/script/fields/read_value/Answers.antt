-- A value is cut at its star, if it has one.
use Rattle.std.proofs.Common.{◌+◌, ℕ, List, take, sym, subst, ◌∙◌}
use Rattle.card_trace.specs.declared.script.reason.LineReason.{LineReason}
use Rattle.card_trace.specs.ScriptFields.{IsRepeatedText}
use Rattle.card_trace.specs.NoFields.{NoHex, NoValue}
use Rattle.card_trace.proofs.ScriptWordLemmas.{rest_whole}
use Rattle.card_trace.proofs.ScriptFieldLemmas.{differs, no_value, cut_value, value_cut}
use Rattle.card_trace.proofs.ScriptRefusalLemmas.{refuses_more, ok_more}
use Rattle.card_trace.proofs.script.fields.read_value.Goals as goal

pub returns-in-None-2-clause-refused : goal.returns-in-None-2-clause-refused
returns-in-None-2-clause-refused g c =
    let text = c.args.text.now in
    let dash = differs text c.as_slice.result.now c.as_slice.ensures
    (sym c.eq.ensures ∙ c.if-eq.false) in
    let P : LineReason → Type 0 = λ reason. NoHex text reason in
    let Q : LineReason → Type 0 = λ reason. NoValue text reason in
    refuses_more c.read_hex.result P Q
    (λ _ no. (no.0, no_value text (sym c.place_of.ensures ∙ c.in-None-2.is) dash no.1))
    c.read_hex.ensures.refused

pub returns-in-Some-clause-ok : goal.returns-in-Some-clause-ok
returns-in-Some-clause-ok g c =
    let text = c.args.text.now in
    let star = c.in-Some.star in
    let found = sym c.place_of.ensures ∙ c.in-Some.is in
    ok_more c.repeated.result _ _ (λ v h.
    let P : List ℕ → Type 0 = λ back. IsRepeatedText (take star text) back v.items in
    cut_value text star v.items found (subst P (rest_whole (star + 1) text) h))
    c.repeated.ensures.ok

pub returns-in-Some-clause-refused : goal.returns-in-Some-clause-refused
returns-in-Some-clause-refused g c =
    let text = c.args.text.now in
    let star = c.in-Some.star in
    let found = sym c.place_of.ensures ∙ c.in-Some.is in
    refuses_more c.repeated.result _ _ (λ _ no. (
      no.0,
      λ value h.
          let P : List ℕ → Type 0 = λ back. IsRepeatedText (take star text) back value in
          no.1 value
          (subst P (sym (rest_whole (star + 1) text)) (value_cut text star value found h)),
    ))
    c.repeated.ensures.refused
