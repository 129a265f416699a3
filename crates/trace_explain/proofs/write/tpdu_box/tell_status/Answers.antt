use Rattle.std.proofs.Common.{drop, refl}
use Rattle.std.specs.String.{string_bytes}
use Rattle.trace_explain.proofs.write.tpdu_box.tell_status.Goals as goal

pub returns : goal.returns
returns c =
    let words = string_bytes c.wrap.new.self.text.text in
    (_, (drop 1 words, refl), c.push_status.ensures words (λ w. refl))
