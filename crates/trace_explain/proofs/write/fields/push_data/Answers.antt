use Rattle.std.proofs.Common.{ℕ, List, ◌++◌, refl, subst, Bool, true}
use Rattle.trace_explain.specs.Fields.{value_name, value_text}
use Rattle.trace_explain.specs.Sheets.{Adds}
use Rattle.trace_explain.specs.Trees.{IsTree}
use Rattle.trace_explain.proofs.SheetLemmas.{adds_both}
use Rattle.trace_explain.proofs.write.fields.push_data.Goals as goal

pub returns : goal.returns
returns c =
    let (tree, is, has, adds) = c.push_tree.ensures in
    let bytes = c.args.bytes.now in
    let N : List ℕ → Type 0 = λ x. Adds c.args.sheet.now x c.push_str.new.self in
    let M : Bool → Type 0 = λ m. IsTree true c.args.mask.now.tags.items m bytes tree in (
      value_name c.args.side ++ value_text c.args.shown bytes ++ tree,
      (tree, subst M c.shows_tree-may_be_objects.ensures is, refl),
      adds_both (adds_both (subst N c.value_name.ensures c.push_str.ensures) c.push_value.ensures)
          adds,
    )
