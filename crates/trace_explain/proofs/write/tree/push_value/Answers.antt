use Rattle.std.proofs.Common.{◌<◌, ◌≡◌, ◌∙◌, ◌+◌, ℕ, List, ap, length, rules, subst, sym, Bool, false}
use Rattle.trace_explain.specs.Sheets.{PutsText}
use Rattle.trace_explain.specs.Trees.{IsValue, indent}
use Rattle.trace_explain.proofs.TreeLemmas.{json_value, no_value, whole_value}
use Rattle.trace_explain.proofs.write.tree.push_value.Goals as goal

pub returns-then-in_json : goal.returns-then-in_json
returns-then-in_json c =
    let object = c.args.object.now in
    let P : Bool → Type 0 = λ j. PutsText (IsValue j object.level object.value)
    c.args.sheet.now c.push_primitive.new.sheet in
    subst P (sym c.if-in_json.true) (json_value object.level c.value-value.ensures
    c.push_words.ensures c.push_primitive.ensures)

pub returns-then-is_empty : goal.returns-then-is_empty
returns-then-is_empty c =
    let object = c.args.object.now in
    let given = c.value-value.result.now in
    let none : length given ≡ 0 = search rules in
    let P : Bool → List ℕ → Type 0 = λ j v. PutsText (IsValue j object.level v) c.args.sheet.now
    c.push_words-then-is_empty.new.sheet in
    let V : List ℕ → Type 0 = P false in
    let J : Bool → Type 0 = λ j. P j object.value in
    subst J (sym c.if-in_json.false) (subst V c.value-value.ensures
    (no_value object.level given none c.push_str.ensures c.push_words-then-is_empty.ensures))

pub returns : goal.returns
returns c =
    let object = c.args.object.now in
    let given = c.value-value.result.now in
    let some : 0 < length given = search rules in
    let P : Bool → List ℕ → Type 0 = λ j v. PutsText (IsValue j object.level v) c.args.sheet.now
    c.push_lines.new.lines in
    let V : List ℕ → Type 0 = P false in
    let J : Bool → Type 0 = λ j. P j object.value in
    subst J (sym c.if-in_json.false) (subst V c.value-value.ensures
    (whole_value object.level given some c.is_text-is_text.ensures
    c.value_width-width.ensures.value
    (ap (λ k. k + 5) (c.indent.ensures ∙ ap indent c.level.ensures)) c.cut.ensures.front
    c.cut.ensures.back c.push_str-2.ensures c.push_content.ensures c.push_words-2.ensures
    c.push_lines.ensures))
