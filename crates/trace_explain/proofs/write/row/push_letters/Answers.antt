use Rattle.std.proofs.Common.{◌<◌, length, rules}
use Rattle.std.proofs.lemmas.List.{take_rest}
use Rattle.trace_explain.specs.Written.{letter}
use Rattle.trace_explain.proofs.SheetLemmas.{letters_done, letters_front, letters_more}
use Rattle.trace_explain.proofs.write.row.push_letters.Goals as goal

pub fronts-preserved : goal.fronts-preserved
fronts-preserved c =
    let f = letter c.args.medium c.args.indent.now in
    let others = c.plain_front.result.1.now in
    let some : 0 < length others = search rules in
    rw (take_rest others 1) (letters_more f others some (letters_front f others
    c.plain_front.ensures.cut (c.plain_front.ensures.plain c.args.indent.now) c.fronts.invariant
    c.push_str.ensures) c.push_letter.ensures)

pub returns-then-is_empty : goal.returns-then-is_empty
returns-then-is_empty c =
    let f = letter c.args.medium c.args.indent.now in
    let others = c.plain_front.result.1.now in
    letters_done f others (search rules) (letters_front f others c.plain_front.ensures.cut
    (c.plain_front.ensures.plain c.args.indent.now) c.fronts.invariant c.push_str.ensures)

pub returns : goal.returns
returns c = letters_done (letter c.args.medium c.args.indent.now) c.fronts.rest.now (search rules)
    c.fronts.invariant
