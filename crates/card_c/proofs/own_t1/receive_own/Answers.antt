use Rattle.std.proofs.Common.{◌∙◌, inr, refl, sym}
use Rattle.card_c.proofs.own_t1.receive_own.Goals as goal

pub returns : goal.returns
returns c = (
  c.take_bytes.new.self,
  c.take_bytes.ensures.after,
  c.take_bytes.ensures.none_behind,
  inr (sym c.is_whole.ensures ∙ c.if-not-is_whole.false, refl, c.hear.ensures),
)
