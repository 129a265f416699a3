use Rattle.exchange_core.specs.PrefixLaws.{led_begins}
use Rattle.exchange_core.proofs.laws.what_led_begins_an_exchange.Goals as goal

pub returns : goal.returns
returns c = led_begins
