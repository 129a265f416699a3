use Rattle.std.proofs.Common.{◌≡◌, ◌<◌, ℕ, slice_index_or}
use Rattle.trace_explain.proofs.describe.mask.Mask.has.Given as goal

-- none of those so far is the tag
abbrev pub invariant-loop-other : goal.invariant-loop-other
invariant-loop-other l = (k : ℕ) → k < l.other-index
    → slice_index_or l.self.tags.items k l.tag ≡ l.tag → ⊥
