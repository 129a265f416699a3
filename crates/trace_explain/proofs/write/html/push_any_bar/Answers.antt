use Rattle.std.specs.Prelude.{ℕ, List}
use Rattle.std.proofs.Common.{subst, sym}
use Rattle.trace_explain.specs.declared.write.layout.Layout.{Layout}
use Rattle.trace_explain.specs.declared.write.layout.Medium.{Medium}
use Rattle.trace_explain.specs.Sheets.{Adds}
use Rattle.trace_explain.specs.Written.{bar_text}
use Rattle.trace_explain.proofs.SheetLemmas.{adds_five}
use Rattle.trace_explain.proofs.write.html.push_any_bar.Goals as goal

pub returns-in-Html : goal.returns-in-Html
returns-in-Html c =
    let A : List ℕ → Type 0 = λ x. Adds c.args.sheet.now x c.push_str-in-Html-2.new.self in
    let L : Layout → Type 0 = λ l. A (bar_text l.medium c.args.all c.args.card) in
    let M : Medium → Type 0 = λ m. A (bar_text m c.args.all c.args.card) in
    subst L c.layout.ensures (subst M (sym c.in-Html.is) (adds_five c.push_str.ensures
    c.push_number.ensures c.push_str-in-Html.ensures c.push_number-in-Html.ensures
    c.push_str-in-Html-2.ensures))
