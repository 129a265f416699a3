use Rattle.t0_core.specs.CuttingLaws.{same_dialogue}
use Rattle.t0_core.proofs.laws.dialogues_opened_alike_have_one_cutting.Goals as goal

pub returns : goal.returns
returns c = same_dialogue
