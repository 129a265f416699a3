use Rattle.t0_core.specs.CuttingLaws.{next_is_sent, next_is_taken, unfinished}
use Rattle.t0_core.proofs.laws.the_next_character_is_settled.Goals as goal

pub returns : goal.returns
returns c = record { sent = next_is_sent; taken = next_is_taken; unfinished = unfinished }
