use Rattle.std.proofs.Common.{◌∙◌, sym}
use Rattle.trace_explain.proofs.TraceLemmas.{none_is_left, last_explained, last_stops}
use Rattle.trace_explain.proofs.explain.explain_last.Goals as goal

pub returns-then-is_empty-clause-explained : goal.returns-then-is_empty-clause-explained
returns-then-is_empty-clause-explained c = λ front reading all come.
    none_is_left (sym c.is_empty.ensures ∙ c.if-is_empty.true) come

pub returns-clause-explained : goal.returns-clause-explained
returns-clause-explained c = λ front reading all come.
    last_explained c.line.result c.args.line.now c.line.new.self
    (sym c.is_empty.ensures ∙ c.if-is_empty.false) come c.line.ensures.counts
    c.line.ensures.explained

pub returns-clause-stops : goal.returns-clause-stops
returns-clause-stops c = λ front reading all come.
    last_stops c.line.result c.args.line.now c.line.new.self
    (sym c.is_empty.ensures ∙ c.if-is_empty.false) come
    c.line.ensures.stops c.line.ensures.of_lines
