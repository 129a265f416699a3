use Rattle.std.proofs.Common.{◌≡◌, ◌++◌, ◌∷◌, [], drop}
use Rattle.atr_core.specs.Answer.{Answer, body_before, ts}
use Rattle.atr_core.proofs.Writing.{AreWritten, parts}
use Rattle.atr_core.proofs.written.written.Given as goal

-- the groups before this one
abbrev pub invariant-groups : goal.invariant-groups
invariant-groups l = AreWritten (parts l.fn.convention l.fn.first l.others l.historical)
    l.out.items l.low l.group (drop l.named-index l.others)

-- the characters so far, followed by the historical bytes that are left
abbrev pub invariant-historical : goal.invariant-historical
invariant-historical l =
    let a : Answer = parts l.fn.convention l.fn.first l.others l.historical in
    l.out.items ++ (drop l.byte-index l.historical ++ []) ≡ ts a.convention ∷ body_before a []
