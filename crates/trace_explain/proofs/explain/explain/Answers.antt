use Rattle.trace_explain.proofs.TraceLemmas.{is_ready}
use Rattle.trace_explain.proofs.explain.explain.Goals as goal

pub returns-clause-stops : goal.returns-clause-stops
returns-clause-stops g c = λ kept chars.
    c.explain_all.ensures.stops c.args.layout c.args.mask c.args.reading (is_ready
    (c.new-explainer.ensures.explained kept chars) c.new-explainer.ensures.position
    c.new-explainer.ensures.line (c.new-explainer.ensures.blank chars))

pub returns-clause-explained : goal.returns-clause-explained
returns-clause-explained g c = λ kept chars.
    c.explain_all.ensures.explained c.args.layout c.args.mask c.args.reading (is_ready
    (c.new-explainer.ensures.explained kept chars) c.new-explainer.ensures.position
    c.new-explainer.ensures.line (c.new-explainer.ensures.blank chars))
