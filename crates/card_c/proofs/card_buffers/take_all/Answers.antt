use Rattle.std.proofs.Common.{take}
use Rattle.card_c.specs.CardCalls.{TakesCharacter}
use Rattle.card_c.proofs.BufferLemmas.{steps_as}
use Rattle.card_c.proofs.card_buffers.take_all.Goals as goal

pub returns : goal.returns
returns c = (
  steps_as _ TakesCharacter (λ s. s) (λ s t b is. (is.listening, is.taken, is.led, is.led_under))
      (take c.take_bytes.result c.args.bytes.now) c.args.end.now c.take_bytes.new.self
      c.take_bytes.ensures.taken,
  c.take_bytes.ensures.all,
)
