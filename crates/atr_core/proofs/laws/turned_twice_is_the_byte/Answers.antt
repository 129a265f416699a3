use Rattle.atr_core.proofs.Turned.{turned_twice}
use Rattle.atr_core.proofs.laws.turned_twice_is_the_byte.Goals as goal

pub returns : goal.returns
returns c = turned_twice
