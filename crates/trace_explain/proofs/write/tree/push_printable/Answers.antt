use Rattle.std.proofs.Common.{◌<◌, ◌≡◌, ◌∙◌, ℕ, List, length, rules, subst, sym, true}
use Rattle.trace_explain.specs.Written.{are_printable}
use Rattle.trace_explain.proofs.TreeLemmas.{some_remark}
use Rattle.trace_explain.proofs.write.tree.push_printable.Goals as goal

pub returns-then-are_printable : goal.returns-then-are_printable
returns-then-are_printable c =
    let some : 0 < length c.args.words.now = search rules in
    let P : List ℕ → Type 0 = λ x. are_printable x ≡ true in
    some_remark c.args.words.now some
    (subst P c.as_bytes.ensures.value (sym c.are_printable.ensures ∙ c.if-are_printable.true))
    c.push_str.ensures c.push_str-then-are_printable.ensures
