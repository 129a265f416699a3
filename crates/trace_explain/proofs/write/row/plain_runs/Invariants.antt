use Rattle.std.proofs.Common.{◌≡◌, ◌≤◌, ◌-◌, ℕ, List, length, take}
use Rattle.trace_explain.specs.Written.{letters}
use Rattle.trace_explain.proofs.write.row.plain_runs.Given as goal

-- those so far are such
abbrev pub invariant-runs : goal.invariant-runs
invariant-runs l = (l.len ≤ length l.text)
    × ((indent : List ℕ) → letters l.medium indent (take l.len l.text) ≡ take l.len l.text)

abbrev pub decreases-runs : goal.decreases-runs
decreases-runs l = length l.text - l.len
