use Rattle.std.proofs.Common.{◌≡◌, ◌++◌, ◌<◌, ◌≤◌, ◌-◌, ℕ, false, length, take}
use Rattle.t1_core.specs.BlockBytes.{is_whole}
use Rattle.t1_core.proofs.receiver.Receiver.take_bytes.Given as goal

-- the block has all bytes so far, and was not complete before any of them
abbrev pub invariant-take : goal.invariant-take
invariant-take l = (l.self ≡ l.fn.self ++ take l.at l.bytes) × (l.at ≤ length l.bytes)
    × ((k : ℕ) → k < l.at → is_whole (l.fn.self ++ take k l.bytes) ≡ false)

-- fewer bytes are left
abbrev pub decreases-take : goal.decreases-take
decreases-take l = length l.bytes - l.at
