use Rattle.std.proofs.Common.{length, ◌-◌}
use Rattle.t0_core.specs.Buffers.{HandsOut}
use Rattle.card_c.specs.BufferCalls.{HandsOutOne}
use Rattle.card_c.proofs.card_buffers.hand_out.Given as goal

-- this number of characters was written
abbrev pub invariant-hand : goal.invariant-hand
invariant-hand l =
    HandsOut HandsOutOne (l.fn.end, l.fn.plans) l.fn.bytes l.bytes l.at (l.end, l.plans)

-- fewer bytes of the buffer are left
abbrev pub decreases-hand : goal.decreases-hand
decreases-hand l = length l.bytes - l.at
