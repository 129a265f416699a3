use Rattle.std.proofs.Common.{◌≡◌, ◌<◌, ◌≤◌, ℕ, false, take}
use Rattle.t1_core.specs.Hearing.{hears_all}
use Rattle.t1_core.proofs.tap.Tap.hear_run.Given as goal

-- the tap has heard all bytes so far, and none of them has ended an item
abbrev pub invariant-loop-at : goal.invariant-loop-at
invariant-loop-at l = (l.self ≡ hears_all l.fn.self l.from (take l.at l.bytes))
    × ((k : ℕ) → 0 < k → k ≤ l.at → (hears_all l.fn.self l.from (take k l.bytes)).ended ≡ false)
