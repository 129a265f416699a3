use Rattle.std.proofs.Common.{}
use Rattle.t0_core.specs.HostMark.{with_data}
use Rattle.t0_core.specs.HostSide.{IsInRange}
use Rattle.exchange_core.proofs.HandingLemmas.{HasHanded}
use Rattle.exchange_core.proofs.exchange.handing.handed_in.Given as goal

-- `at` characters have been written
abbrev pub invariant-loop-at : goal.invariant-loop-at
invariant-loop-at l =
    HasHanded (with_data l.fn.end l.content) l.stalled l.fn.bytes l.bytes l.at
    (with_data l.end l.content) × IsInRange (with_data l.end l.content)
