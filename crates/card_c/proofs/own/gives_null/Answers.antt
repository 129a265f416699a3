use Rattle.std.proofs.Common.{refl, sym, ◌∙◌}
use Rattle.card_c.proofs.NullLemmas.{in_step}
use Rattle.card_c.proofs.own.gives_null.Goals as goal

pub returns : goal.returns
returns c = (
  refl,
  (_, c.wanted_next.ensures, c.is_response.ensures),
  λ gives. in_step c.args.own.now.end _ c.wanted_next.ensures (sym c.is_response.ensures ∙ gives),
)
