use Rattle.trace_explain.proofs.SheetLemmas.{adds_both}
use Rattle.trace_explain.proofs.write.words.push_most.Goals as goal

pub returns : goal.returns
returns c = adds_both (adds_both c.push_str.ensures c.push_number.ensures) c.push_str-2.ensures
