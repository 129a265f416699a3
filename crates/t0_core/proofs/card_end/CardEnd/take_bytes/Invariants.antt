use Rattle.std.proofs.Common.{take}
use Rattle.t0_core.specs.Buffers.{Steps}
use Rattle.t0_core.specs.CardTaking.{IsTaken}
use Rattle.t0_core.proofs.card_end.CardEnd.take_bytes.Given as goal

-- the first `at` characters have been taken
abbrev pub invariant-loop-at : goal.invariant-loop-at
invariant-loop-at g l = Steps (IsTaken g.C.TpduCard) l.fn.self (take l.at l.bytes) l.self
