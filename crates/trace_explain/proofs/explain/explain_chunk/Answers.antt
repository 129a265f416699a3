use Rattle.std.proofs.Common.{◌++◌, ◌∙◌, ◌<◌, ℕ, List, sym, ap, subst, drop, length, length-append, refl, arith, rules}
use Rattle.std.proofs.lemmas.List.{nil_from_length, take_rest}
use Rattle.std.specs.Str.Lines.{strip_carriage_return}
use Rattle.trace_explain.specs.Trace.{HasReceived}
use Rattle.trace_explain.proofs.TraceLemmas.{ends_line, fed_stops, line_fed, run_cut, too_long}
use Rattle.trace_explain.proofs.explain.explain_chunk.Goals as goal

pub returns-then-is_too_long-clause-stops : goal.returns-then-is_too_long-clause-stops
returns-then-is_too_long-clause-stops c = λ front reading all left come.
    let line = c.lines.line.items in
    let run = c.split_at.result.0.now in
    let received = run_cut (line ++ run) c.lines.rest.now run c.split_at.result.1.now left
    c.line_len.result c.split_at.ensures.front c.split_at.ensures.back c.line_len.ensures.runs refl
    (c.lines.invariant front reading all left come) in
    too_long c.next_line.result received (omega (
      arith,
      length-append line run,
      c.is_too_long.ensures c.if-is_too_long.true,
      c.len.ensures,
    )) c.next_line.ensures

pub returns-in_err-line-clause-stops : goal.returns-in_err-line-clause-stops
returns-in_err-line-clause-stops c = λ front reading all left come.
    let rest = c.lines.rest.now in
    let others = c.split_at.result.1.now in
    let n = c.line_len.result in
    let some : 0 < length others = search rules in
    let received = run_cut c.append.new.line.items rest c.split_at.result.0.now others left n
    c.split_at.ensures.front c.split_at.ensures.back c.line_len.ensures.runs c.in_ok-append.ensures
    (c.lines.invariant front reading all left come) in
    fed_stops c.from_residual-in_err-line.result c.in_err-line.field-0.0 c.without_return.result.now
    (drop 1 others ++ left) 10 c.line.new.self c.from_residual-in_err-line.ensures.1
    c.in_err-line.ensures.of_lines received
    (ends_line rest others left n c.split_at.ensures.back some c.line_len.ensures.ends) refl
    (c.without_return.ensures ∙ ap strip_carriage_return c.as_slice.ensures.value)
    c.in_err-line.ensures.stops

pub lines-preserved : goal.lines-preserved
lines-preserved c = λ front reading all left come.
    let rest = c.lines.rest.now in
    let others = c.split_at.result.1.now in
    let n = c.line_len.result in
    let some : 0 < length others = search rules in
    let received = run_cut c.append.new.line.items rest c.split_at.result.0.now others left n
    c.split_at.ensures.front c.split_at.ensures.back c.line_len.ensures.runs c.in_ok-append.ensures
    (c.lines.invariant front reading all left come) in
    let P : List ℕ → Type 0 = λ line.
    HasReceived front reading all line (drop 1 others ++ left) c.line.new.self in
    rw (take_rest others 1) (subst P (sym c.clear.ensures.items)
    (line_fed c.without_return.result.now (drop 1 others ++ left) 10 c.line.new.self received
    c.in_ok-line.ensures.counts
    (ends_line rest others left n c.split_at.ensures.back some c.line_len.ensures.ends) refl
    (c.without_return.ensures ∙ ap strip_carriage_return c.as_slice.ensures.value)
    c.in_ok-line.ensures.explained))

pub returns-then-is_empty-clause-explained : goal.returns-then-is_empty-clause-explained
returns-then-is_empty-clause-explained c = λ front reading all left come.
    let others = c.split_at.result.1.now in
    let P : List ℕ → Type 0 = λ bytes.
    HasReceived front reading all c.append.new.line.items bytes c.lines.explainer in
    subst P (ap (λ x. x ++ left) (nil_from_length others (search rules)))
    (run_cut c.append.new.line.items c.lines.rest.now c.split_at.result.0.now others left
    c.line_len.result c.split_at.ensures.front c.split_at.ensures.back c.line_len.ensures.runs
    c.in_ok-append.ensures (c.lines.invariant front reading all left come))

pub returns-clause-explained : goal.returns-clause-explained
returns-clause-explained c = λ front reading all left come.
    let P : List ℕ → Type 0 = λ bytes.
    HasReceived front reading all c.lines.line.items bytes c.lines.explainer in
    subst P (ap (λ x. x ++ left) (nil_from_length c.lines.rest.now (search rules)))
    (c.lines.invariant front reading all left come)
