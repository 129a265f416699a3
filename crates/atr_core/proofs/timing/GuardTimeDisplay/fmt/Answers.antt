use Rattle.std.proofs.lemmas.Bool.{ne_eqb}
use Rattle.atr_core.proofs.timing.GuardTimeDisplay.fmt.Goals as goal

-- the text if there are Fi/Di cycles
pub returns-else-self-eq0-clause-writes : goal.returns-else-self-eq0-clause-writes
returns-else-self-eq0-clause-writes g c =
    rw (ne_eqb c.args.self.now.indicated 0 c.if-self-eq0.false)
    c.write-else-self-eq0.ensures.writes
