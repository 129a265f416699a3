use Rattle.std.proofs.Common.{◌≡◌, ◌∙◌, List, ℕ, ap, sym, subst, take, get_or, length, arith}
use Rattle.std.proofs.lemmas.List.{take_more}
use Rattle.t0_core.specs.Front.{front_characters}
use Rattle.t0_core.specs.History.{passed}
use Rattle.trace_explain.specs.Noted.{NotesRun}
use Rattle.trace_explain.specs.Reports.{ends_next, is_last}
use Rattle.trace_explain.proofs.NotedLemmas.{alone, hears_inside, not_last, notes_more}
use Rattle.trace_explain.proofs.follow.listener.Listener.hear_run.Goals as goal

pub loop-place-preserved : goal.loop-place-preserved
loop-place-preserved c = λ events before h.
    let mid = c.loop-place.self in
    let new = c.note.new.self in
    let bytes = c.args.bytes.now in
    let i = c.loop-place.place in
    let b = get_or bytes i 0 in
    let P : List ℕ → Type 0 = λ bs. NotesRun c.args.from c.args.mark bs events before new in
    let inside = ap is_last c.in-Ok.ensures.taken.0 ∙ not_last mid.tap c.args.from b
    (sym (c.ends_next.ensures ∙ ap ends_next c.due.ensures) ∙ c.if-ends_next.false) in
    subst P (sym (take_more bytes i 0 (omega (arith, c.loop-place-test.true))))
    (notes_more c.args.from c.args.mark (take i bytes) b events before mid new
    (λ es noted. hears_inside es before mid new c.in-Ok.heard (c.args.from, b) c.args.mark noted
    (rw c.in_ok-note-in-Ok.ensures.tap (c.in-Ok.ensures.led (passed (front_characters noted.front))
    (alone es before mid noted))) inside c.in_ok-note-in-Ok.ensures.noted)
    (c.loop-place.invariant events before h))

pub returns : goal.returns
returns c = λ events before h.
    let bytes = c.args.bytes.now in
    let P : ℕ → Type 0 = λ n.
    NotesRun c.args.from c.args.mark (take n bytes) events before c.loop-place.self in
    let all : c.loop-place.place ≡ length bytes =
    omega (arith, c.loop-place-test.false, c.loop-place.auto.place-end) in
    subst P all (c.loop-place.invariant events before h)
