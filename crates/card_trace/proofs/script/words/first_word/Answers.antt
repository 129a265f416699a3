-- The text before the first space is a word, and the other words follow it.
use Rattle.std.proofs.Common.{◌≢◌, ◌+◌, ◌∷◌, length, take, arith, sym, ap, ◌∙◌}
use Rattle.std.proofs.lemmas.Bool.{eqb-false}
use Rattle.card_trace.specs.ScriptWords.{words_in}
use Rattle.card_trace.proofs.ScriptWordLemmas.{last_word, word_then, rest_whole}
use Rattle.card_trace.proofs.script.words.first_word.Goals as goal

pub returns-in-None : goal.returns-in-None
returns-in-None c =
    let text = c.without_spaces-text.result.now in
    let some : length text ≢ 0 = eqb-false (length text) 0
    (sym c.is_empty.ensures ∙ c.if-is_empty.false) in
    sym c.without_spaces-text.ensures.words
    ∙ last_word text (omega (arith, some)) (sym c.place_of.ensures ∙ c.in-None.is)

pub returns-in-Some : goal.returns-in-Some
returns-in-Some c =
    let text = c.without_spaces-text.result.now in
    let end = c.in-Some.end in
    sym c.without_spaces-text.ensures.words
    ∙ word_then text end c.without_spaces-text.ensures.start (sym c.place_of.ensures ∙ c.in-Some.is)
    ∙ ap (λ rest. take end text ∷ words_in rest) (sym (rest_whole (end + 1) text))
