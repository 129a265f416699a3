use Rattle.std.proofs.Common.{◌≡◌, map, take}
use Rattle.card_trace.specs.ScriptFields.{letter_of}
use Rattle.card_trace.proofs.script.fields.read_steps.Given as goal

abbrev pub invariant-loop-letter : goal.invariant-loop-letter
invariant-loop-letter g l = map letter_of l.steps.items ≡ take l.letter-index l.text
