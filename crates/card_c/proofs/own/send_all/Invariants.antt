use Rattle.std.proofs.Common.{length, ◌-◌}
use Rattle.t0_core.specs.Buffers.{HandsOut}
use Rattle.card_c.specs.OwnCalls.{OwnHandsOutOne}
use Rattle.card_c.proofs.own.send_all.Given as goal

-- this number of characters was written
abbrev pub invariant-send : goal.invariant-send
invariant-send l =
    HandsOut OwnHandsOutOne (l.fn.end, l.fn.plans) l.fn.bytes l.bytes l.at (l.end, l.plans)

-- fewer bytes of the buffer are left
abbrev pub decreases-send : goal.decreases-send
decreases-send l = length l.bytes - l.at
