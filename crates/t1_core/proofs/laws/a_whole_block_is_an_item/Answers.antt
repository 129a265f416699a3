use Rattle.t1_core.proofs.HearingFacts.{whole_block}
use Rattle.t1_core.proofs.laws.a_whole_block_is_an_item.Goals as goal

pub returns : goal.returns
returns c = λ heard more before after tap from bytes block h is valid none.
    whole_block heard more before after tap from bytes block h is valid none
