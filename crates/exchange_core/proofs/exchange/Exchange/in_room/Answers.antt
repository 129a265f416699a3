use Rattle.std.proofs.Common.{[], None, refl}
use Rattle.t0_core.specs.Front.{fresh}
use Rattle.exchange_core.specs.ExchangeHistory.{to_front}
use Rattle.exchange_core.proofs.exchange.Exchange.in_room.Goals as goal

pub returns-clause-led : goal.returns-clause-led
returns-clause-led g c = to_front [] None fresh c.begin.ensures.begins refl
