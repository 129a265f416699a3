use Rattle.std.proofs.Common.{◌≡◌, ◌++◌, drop}
use Rattle.card_trace.specs.TraceText.{characters_text}
use Rattle.card_trace.proofs.TraceLemmas.{whole_text}
use Rattle.card_trace.proofs.text.push_characters.Given as goal

abbrev pub invariant-loop-character : goal.invariant-loop-character
invariant-loop-character g l =
    whole_text l.text.items l.from l.run.items (drop l.character-index l.characters)
    ≡ l.fn.text.items ++ characters_text l.characters
