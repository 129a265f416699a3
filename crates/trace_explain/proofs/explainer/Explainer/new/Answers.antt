use Rattle.std.proofs.Common.{[], refl}
use Rattle.trace_explain.proofs.explainer.Explainer.new.Goals as goal

pub returns-clause-blank : goal.returns-clause-blank
returns-clause-blank c = λ of_tpdus. record {
  hears = of_tpdus;
  manner = rw (c.new-6.ensures.writes, c.new-6.ensures.mask, c.new-6.ensures.layout) refl;
  shows = λ writes whole. record {
    boxes = [];
    are = tt;
    reports_are = refl;
    after_is = c.new-6.ensures.number;
    has = ([], c.new-6.ensures.text);
  };
}
