use Rattle.std.proofs.Common.{◌≡◌, ◌++◌, take, drop, map, length, List, ℕ}
use Rattle.t0_core.specs.Character.{Character}
use Rattle.card_c.specs.declared.character_record.CharacterRecord.{CharacterRecord}
use Rattle.card_c.specs.HeardCalls.{character_record}
use Rattle.card_c.proofs.heard.put_all.Given as goal

-- The array stays before this place, and the remaining characters follow there.
pub record GoesOn (heard : List Character) (old : List CharacterRecord) (at : ℕ)
    (line : List CharacterRecord) : Type 0 where
  pub whole : map character_record heard ++ drop (length heard) old
      ≡ take at line ++ (map character_record (drop at heard) ++ drop (length heard) line)
  pub room : length line ≡ length old

abbrev pub invariant-loop-at : goal.invariant-loop-at
invariant-loop-at l = GoesOn l.fn.heard l.fn.line l.at l.line
