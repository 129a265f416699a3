use Rattle.std.proofs.Common.{Bool, subst, sym}
use Rattle.trace_explain.specs.Sheets.{PutsText}
use Rattle.trace_explain.specs.Trees.{AreWords}
use Rattle.trace_explain.proofs.TreeLemmas.{both_words}
use Rattle.trace_explain.proofs.write.tree.push_words.Goals as goal

pub returns-then-in_json : goal.returns-then-in_json
returns-then-in_json c =
    let P : Bool → Type 0 =
    λ j. PutsText (AreWords j) c.args.sheet.now c.push_field-then-in_json.new.sheet in
    subst P (sym c.if-in_json.true) (both_words c.push_field.ensures
    c.push_field-then-in_json.ensures)
