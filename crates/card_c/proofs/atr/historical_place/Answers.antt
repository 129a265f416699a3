-- The historical bytes and TCK are not more than the whole.
use Rattle.std.proofs.Common.{arith, ap, length}
use Rattle.card_c.proofs.AtrLemmas.{end_has}
use Rattle.card_c.proofs.atr.historical_place.Goals as goal

pub overflow_sub-result : goal.overflow_sub-result
overflow_sub-result c = omega (
  arith,
  end_has c.args.answer.now,
  c.requires,
  c.check_size.ensures,
  ap length c.historical.ensures.bytes,
)
