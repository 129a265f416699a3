-- There is room for the protocols.
use Rattle.card_c.proofs.AtrLemmas.{few_protocols}
use Rattle.card_c.proofs.atr.recorded.Goals as goal

pub listed-requires : goal.listed-requires
listed-requires c = record {
  few = rw (c.deref.ensures.0, c.protocols-protocols.ensures)
      (few_protocols c.args.answer.now c.requires.answer);
}
