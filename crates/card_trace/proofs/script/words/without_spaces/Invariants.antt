use Rattle.std.proofs.Common.{◌≡◌, length}
use Rattle.card_trace.specs.ScriptWords.{words_in}
use Rattle.card_trace.proofs.script.words.without_spaces.Given as goal

abbrev pub invariant-loop-left : goal.invariant-loop-left
invariant-loop-left l = words_in l.left ≡ words_in l.text

abbrev pub decreases-loop-left : goal.decreases-loop-left
decreases-loop-left l = length l.left
