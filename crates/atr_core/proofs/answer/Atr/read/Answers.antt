use Rattle.atr_core.proofs.Verdicts.{each}
use Rattle.atr_core.proofs.answer.Atr.read.Goals as goal

pub returns-clause-each : goal.returns-clause-each
returns-clause-each c = each c.args.bytes.now c.whole.result c.whole.ensures
