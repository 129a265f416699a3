use Rattle.std.proofs.Common.{◌≡◌, ℕ, List, ◌++◌, length, All}
use Rattle.tlv_core.proofs.front.past_padding.Given as goal

-- the skipped bytes are padding
abbrev pub invariant-loop-rest : goal.invariant-loop-rest
invariant-loop-rest l = (padding : List ℕ) × (All (λ b. b ≡ 0) padding)
    × (l.bytes ≡ padding ++ l.rest)

abbrev pub decreases-loop-rest : goal.decreases-loop-rest
decreases-loop-rest l = length l.rest
