use Rattle.std.proofs.Common.{}
use Rattle.exchange_core.proofs.HandingLemmas.{HasHanded}
use Rattle.exchange_core.proofs.exchange.handing.handed_by.Given as goal

-- `at` characters have been written
abbrev pub invariant-loop-at : goal.invariant-loop-at
invariant-loop-at l = HasHanded l.fn.end l.stalled l.fn.bytes l.bytes l.at l.end
