use Rattle.atr_core.proofs.Ends.{AreHistorical}
use Rattle.atr_core.proofs.characters.historical.Given as goal

abbrev pub invariant-loop : goal.invariant-loop
invariant-loop l = AreHistorical l.bytes l.start l.count l.counter l.historical.items l.place
