use Rattle.std.proofs.Common.{◌≤◌, ◌-◌, length}
use Rattle.exchange_core.specs.OwnedExchange.{of_parts}
use Rattle.exchange_core.proofs.TakingLemmas.{HasTaken}
use Rattle.exchange_core.proofs.exchange.taking.all_taken_by.Given as goal

-- `at` characters have been taken
abbrev pub invariant-rest : goal.invariant-rest
invariant-rest g l =
    HasTaken (of_parts l.fn.end l.fn.gather l.fn.attempt l.wanted l.fn.stalled)
    (of_parts l.end l.gather l.attempt l.wanted l.stalled) l.bytes l.at
    × (l.at ≤ length l.bytes)

abbrev pub decreases-rest : goal.decreases-rest
decreases-rest g l = length l.bytes - l.at
