use Rattle.t0_core.proofs.TapLineLemmas.{hears_dialogues}
use Rattle.t0_core.proofs.laws.a_tap_takes_the_dialogues_that_it_reads.Goals as goal

pub returns : goal.returns
returns c = hears_dialogues
