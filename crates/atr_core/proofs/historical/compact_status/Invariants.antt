use Rattle.std.proofs.Common.{◌≡◌, ◌≤◌, ◌-◌, drop, length}
use Rattle.atr_core.specs.HistoricalBytes.{compact_status}
use Rattle.atr_core.proofs.historical.compact_status.Given as goal

-- the last object is at this place or after it
abbrev pub invariant-objects : goal.invariant-objects
invariant-objects l = (compact_status 0 (drop l.place l.bytes) ≡ compact_status 0 l.bytes)
    × (l.place ≤ length l.bytes)

abbrev pub decreases-objects : goal.decreases-objects
decreases-objects l = length l.bytes - l.place
