use Rattle.object_card.specs.ResponseLaws.{what_is_announced_waits, fetched, announced_is_brought}
use Rattle.object_card.proofs.laws.runs.what_is_announced_is_brought.Goals as goal

pub returns-clause-waits : goal.returns-clause-waits
returns-clause-waits c = what_is_announced_waits

pub returns-clause-fetched : goal.returns-clause-fetched
returns-clause-fetched c = fetched

pub returns-clause-brought : goal.returns-clause-brought
returns-clause-brought c = announced_is_brought
