use Rattle.std.proofs.Common.{}
use Rattle.exchange_core.proofs.exchange.Exchange.start_within.Goals as goal

pub returns-clause-led : goal.returns-clause-led
returns-clause-led g c = c.in_ok-in_room.ensures.led
