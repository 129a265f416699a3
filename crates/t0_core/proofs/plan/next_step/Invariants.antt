use Rattle.std.proofs.Common.{◌≡◌, ◌-◌, ◌≤◌, length, drop}
use Rattle.t0_core.specs.Plan.{segments_of}
use Rattle.t0_core.proofs.plan.next_step.Given as goal

-- the skipped steps make no segment
abbrev pub invariant-loop-at : goal.invariant-loop-at
invariant-loop-at l =
    (segments_of (drop l.at l.steps) l.left ≡ segments_of (drop l.done l.steps) l.left)
    × (l.done ≤ l.at)

abbrev pub decreases-loop-at : goal.decreases-loop-at
decreases-loop-at l = length l.steps - l.at
