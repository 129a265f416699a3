use Rattle.std.proofs.Common.{◌≡◌, map, take}
use Rattle.card_c.specs.PlanLetters.{letter_of}
use Rattle.card_c.proofs.plan_letters.steps_of.Given as goal

abbrev pub invariant-loop-letter : goal.invariant-loop-letter
invariant-loop-letter l = map letter_of l.steps.items ≡ take l.letter-index l.letters
