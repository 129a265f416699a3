use Rattle.std.proofs.Common.{◌≡◌, drop}
use Rattle.std.specs.List.{find}
use Rattle.apdu_core.specs.Meanings.{fits}
use Rattle.apdu_core.proofs.meaning.Meaning.find.Given as goal

-- The rest decides.
abbrev pub invariant-loop-meaning : goal.invariant-loop-meaning
invariant-loop-meaning l = find (fits l.cla l.ins l.word) l.meanings
    ≡ find (fits l.cla l.ins l.word) (drop l.meaning-index l.meanings)
