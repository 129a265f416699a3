use Rattle.std.proofs.Common.{take}
use Rattle.card_c.specs.PlanLetters.{AreSteps}
use Rattle.card_c.proofs.plan_letters.are_steps.Given as goal

abbrev pub invariant-loop-letter : goal.invariant-loop-letter
invariant-loop-letter l = AreSteps (take l.letter-index l.letters)
