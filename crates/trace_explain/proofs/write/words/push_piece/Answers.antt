use Rattle.std.specs.Prelude.{ℕ, List}
use Rattle.std.proofs.Common.{subst, sym}
use Rattle.trace_explain.specs.declared.write.layout.Layout.{Layout}
use Rattle.trace_explain.specs.declared.write.layout.Medium.{Medium}
use Rattle.trace_explain.specs.declared.write.layout.Medium.TheVariants.{Html}
use Rattle.trace_explain.specs.declared.write.words.Form.{Form}
use Rattle.trace_explain.specs.Sheets.{Adds}
use Rattle.trace_explain.specs.Words.{piece_text}
use Rattle.trace_explain.proofs.write.words.push_piece.Goals as goal

pub returns-in-Html-Part : goal.returns-in-Html-Part
returns-in-Html-Part c =
    let A : List ℕ → Type 0 = λ x. Adds c.args.sheet.now x c.push_part.new.sheet in
    let L : Layout → Type 0 = λ l. A (piece_text l.medium c.args.form c.args.text.now) in
    let M : Medium → Type 0 = λ m. A (piece_text m c.args.form c.args.text.now) in
    let F : Form → Type 0 = λ f. A (piece_text Html f c.args.text.now) in
    subst L c.layout-medium.ensures (subst M (sym c.in-Html-Part.is-0)
    (subst F (sym c.in-Html-Part.is-1) c.push_part.ensures))

pub returns-in-Html-PartEnd : goal.returns-in-Html-PartEnd
returns-in-Html-PartEnd c =
    let A : List ℕ → Type 0 = λ x. Adds c.args.sheet.now x c.push_str-in-Html-PartEnd.new.self in
    let L : Layout → Type 0 = λ l. A (piece_text l.medium c.args.form c.args.text.now) in
    let M : Medium → Type 0 = λ m. A (piece_text m c.args.form c.args.text.now) in
    let F : Form → Type 0 = λ f. A (piece_text Html f c.args.text.now) in
    subst L c.layout-medium.ensures (subst M (sym c.in-Html-PartEnd.is-0)
    (subst F (sym c.in-Html-PartEnd.is-1) c.push_str-in-Html-PartEnd.ensures))
