use Rattle.std.proofs.Common.{ℕ, List, [], ◌++◌, Bool, if◌then◌else◌, ◌==◌, ap, codes, subst, sym}
use Rattle.hex.specs.Hex.{encode_upper}
use Rattle.trace_explain.specs.Sheets.{Adds}
use Rattle.trace_explain.specs.Written.{class_of}
use Rattle.trace_explain.proofs.SheetLemmas.{adds_five}
use Rattle.trace_explain.proofs.write.html.push_whole_mark.Goals as goal

pub returns-then-status-eq2 : goal.returns-then-status-eq2
returns-then-status-eq2 c =
    let text : List ℕ = codes " <b class=\"" ++ class_of c.args.kind ++ codes "\">"
    ++ encode_upper c.args.status.now ++ codes "</b>" in
    let last = c.push_str-then-status-eq2-3.new.self in
    let C : List ℕ → Type 0 =
    λ x. Adds c.push_str.new.self x c.push_str-then-status-eq2.new.self in
    let P : Bool → Type 0 = λ v. Adds c.args.sheet.now (if v then text else []) last in
    subst P (sym (ap (λ n. n == 2) c.if-status-eq2.true)) (adds_five c.push_str.ensures
    (subst C c.class_of.ensures c.push_str-then-status-eq2.ensures)
    c.push_str-then-status-eq2-2.ensures c.push_hex.ensures c.push_str-then-status-eq2-3.ensures)
