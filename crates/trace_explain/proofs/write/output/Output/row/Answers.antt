use Rattle.std.proofs.Common.{[], refl}
use Rattle.std.specs.String.{string_bytes}
use Rattle.trace_explain.proofs.SheetLemmas.{adds_nothing}
use Rattle.trace_explain.proofs.write.output.Output.row.Goals as goal

pub returns-then-is_blank : goal.returns-then-is_blank
returns-then-is_blank c = ([], ([], refl), adds_nothing)

pub returns : goal.returns
returns c =
    let own = string_bytes c.wrap.new.self.text.text in
    (_, (own, refl), c.push_row_of.ensures own (λ w. refl))
