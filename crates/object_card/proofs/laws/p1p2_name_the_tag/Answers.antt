use Rattle.object_card.specs.TagLaws.{named}
use Rattle.object_card.proofs.TagLemmas.{names}
use Rattle.object_card.proofs.laws.p1p2_name_the_tag.Goals as goal

pub returns : goal.returns
returns c = λ tag p1 p2. (names tag p1 p2, named tag p1 p2)
