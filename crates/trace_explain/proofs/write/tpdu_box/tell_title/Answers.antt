use Rattle.std.proofs.Common.{refl}
use Rattle.std.specs.String.{string_bytes}
use Rattle.trace_explain.proofs.write.tpdu_box.tell_title.Goals as goal

pub returns : goal.returns
returns c =
    let words = string_bytes c.wrap_title.new.self.text.text in
    (_, (c.kind_of-kind.result, words, refl), c.push_title-2.ensures words (λ w. refl))
