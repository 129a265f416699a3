use Rattle.atr_core.proofs.Steps.{cut_at, long_at}
use Rattle.atr_core.proofs.characters.character.Goals as goal

pub returns-then-place-bytes : goal.returns-then-place-bytes
returns-then-place-bytes c = cut_at _ _ c.if-place-eq-LONGEST.false c.if-place-bytes.true

pub returns-then-place-eq-LONGEST : goal.returns-then-place-eq-LONGEST
returns-then-place-eq-LONGEST c = long_at _ _ c.if-place-eq-LONGEST.true
