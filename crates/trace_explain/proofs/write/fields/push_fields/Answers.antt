use Rattle.std.proofs.Common.{ℕ, List, subst}
use Rattle.trace_explain.specs.Fields.{name_text}
use Rattle.trace_explain.specs.Sheets.{Adds}
use Rattle.trace_explain.proofs.SheetLemmas.{adds_both, adds_five}
use Rattle.trace_explain.proofs.write.fields.push_fields.Goals as goal

pub returns : goal.returns
returns c =
    let N : List ℕ → Type 0 = λ x. Adds c.push_number.new.sheet (name_text x) c.push_name.new.sheet
    in adds_both (adds_both (adds_five c.push_number.ensures
    (subst N c.as_bytes.ensures.value c.push_name.ensures) c.push_number-2.ensures
    c.push_flag.ensures c.push_flag-2.ensures) c.push_number-3.ensures) c.push_flag-3.ensures
