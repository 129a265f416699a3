use Rattle.std.proofs.Common.{Bool, Ok, [], ap, refl, sym, take, ◌∙◌}
use Rattle.trace_explain.specs.declared.read.entry.Source.{Source}
use Rattle.trace_explain.specs.Explained.{position_of}
use Rattle.trace_explain.specs.Lines.{Position}
use Rattle.trace_explain.specs.Openings.{Opening, begun}
use Rattle.trace_explain.specs.Turns.{source_at}
use Rattle.trace_explain.proofs.AccountLemmas.{boxes_stay}
use Rattle.trace_explain.proofs.ExplainedLemmas.{explains_nothing, run_explained}
use Rattle.trace_explain.proofs.explainer.Explainer.run.Goals as goal

pub returns-in_default-clause-explained : goal.returns-in_default-clause-explained
returns-in_default-clause-explained c = λ events before h.
    ([], (refl, refl), explains_nothing events before _ h boxes_stay)

pub returns-clause-explained : goal.returns-clause-explained
returns-clause-explained c = λ events before h.
    let reading = c.args.self.now.reading in
    let at = position_of c.args.self.now in
    let place : Opening → Bool → Position = λ o has.
    record at { opening = o; has_characters = has } in
    let is = ap (λ o. place o c.args.self.now.has_characters)
    (c.is_over.ensures c.if-not-is_over.false) ∙ ap (place begun) c.if-not-self.false in
    run_explained c.args.source c.sender-from.result (take c.in_ok-count.count c.args.bytes.now)
    events before c.args.self.now _ is refl
    (λ at b. ap (λ (s : Source). source_at s reading begun at b) c.in-Sign.is
    ∙ ap Ok (sym c.sender-from.ensures))
    (c.in_ok-count.ensures.noted events before h.0) h.1 c.in_ok-count.ensures.boxes
