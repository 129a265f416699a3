-- The line before the first LF, and the other lines after it.
use Rattle.std.proofs.Common.{◌≢◌, ◌+◌, ◌∷◌, length, drop, arith, sym, ap, ◌∙◌}
use Rattle.std.specs.Str.Lines.{lines}
use Rattle.std.proofs.lemmas.Bool.{eqb-false}
use Rattle.card_trace.proofs.ScriptWordLemmas.{last_line, line_then, rest_whole, makes_progress}
use Rattle.card_trace.proofs.script.lines.LinesIterator.next.Goals as goal

pub returns-in-None-clause-steps : goal.returns-in-None-clause-steps
returns-in-None-clause-steps c =
    let rest = c.self.inside.rest.now in
    let some : length rest ≢ 0 = eqb-false (length rest) 0
    (sym c.is_empty.ensures ∙ c.if-is_empty.false) in
    sym c.self.view_is ∙ last_line rest (omega (arith, some))
    (sym c.place_of.ensures ∙ c.in-None.is)

pub returns-in-None-clause-goes : goal.returns-in-None-clause-goes
returns-in-None-clause-goes c =
    makes_progress (λ line. line.now) _ _ _ (returns-in-None-clause-steps c)

pub returns-in-Some-clause-steps : goal.returns-in-Some-clause-steps
returns-in-Some-clause-steps c =
    let rest = c.self.inside.rest.now in
    let after = c.in-Some.end + 1 in
    sym c.self.view_is
    ∙ line_then rest c.in-Some.end (sym c.place_of.ensures ∙ c.in-Some.is)
    ∙ ap (λ line. line ∷ lines (drop after rest)) (sym c.without_return.ensures)
    ∙ ap (λ others. c.without_return.result.now ∷ lines others) (sym (rest_whole after rest))

pub returns-in-Some-clause-goes : goal.returns-in-Some-clause-goes
returns-in-Some-clause-goes c =
    makes_progress (λ line. line.now) _ _ _ (returns-in-Some-clause-steps c)
