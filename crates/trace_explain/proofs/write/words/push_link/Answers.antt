use Rattle.trace_explain.proofs.SheetLemmas.{adds_five}
use Rattle.trace_explain.proofs.write.words.push_link.Goals as goal

pub returns : goal.returns
returns c = adds_five c.push_str.ensures c.push_name.ensures c.push_str-2.ensures
    c.push_letters.ensures c.push_str-3.ensures
