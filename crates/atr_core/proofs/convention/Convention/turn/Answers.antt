use Rattle.std.proofs.Common.{arith, refl}
use Rattle.atr_core.proofs.Turned.{reversed_is}
use Rattle.atr_core.proofs.convention.Convention.turn.Goals as goal

pub returns-in-Inverse : goal.returns-in-Inverse
returns-in-Inverse c =
    rw (c.in-Inverse.is, c.reverse_bits.ensures, reversed_is c.args.byte (omega arith)) refl
