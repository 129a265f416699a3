use Rattle.std.proofs.Common.{◌≡◌, drop}
use Rattle.object_card.specs.Tables.{entries_in}
use Rattle.object_card.specs.CardFields.{applications_of}
use Rattle.object_card.proofs.select_command.find.Given as goal

-- no application so far has this identifier
abbrev pub invariant-loop-place : goal.invariant-loop-place
invariant-loop-place g l =
    entries_in l.aid (applications_of l.applications)
    ≡ entries_in l.aid (applications_of (drop l.place l.applications))
