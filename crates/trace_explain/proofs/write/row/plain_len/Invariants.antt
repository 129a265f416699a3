use Rattle.std.proofs.Common.{◌≡◌, ℕ, List, take}
use Rattle.trace_explain.specs.Written.{letters}
use Rattle.trace_explain.proofs.write.row.plain_len.Given as goal

-- those so far are such
abbrev pub invariant-loop-place : goal.invariant-loop-place
invariant-loop-place l = (indent : List ℕ)
    → letters l.medium indent (take l.place l.text) ≡ take l.place l.text
