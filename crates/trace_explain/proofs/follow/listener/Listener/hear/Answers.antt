use Rattle.std.proofs.Common.{append-nil, sym, ◌∙◌}
use Rattle.t0_core.specs.Front.{front_characters}
use Rattle.t0_core.specs.History.{passed}
use Rattle.trace_explain.proofs.NotedLemmas.{alone, hears_inside, hears_last}
use Rattle.trace_explain.proofs.follow.listener.Listener.hear.Goals as goal

pub returns-then-is_last-clause-noted : goal.returns-then-is_last-clause-noted
returns-then-is_last-clause-noted c = λ events before noted.
    rw (c.cut.ensures.cut, c.in_ok-note.ensures.noted)
    (hears_last events before c.args.self.now c.cut.new.self c.in-Ok.heard
    (c.args.from, c.args.byte) c.args.mark noted
    (rw (c.cut.ensures.tap, c.in_ok-note.ensures.tap)
    (c.in-Ok.ensures.led (passed (front_characters noted.front))
    (alone events before c.args.self.now noted)))
    (sym c.is_last.ensures ∙ c.if-is_last.true) c.cut.ensures.left)

pub returns-clause-noted : goal.returns-clause-noted
returns-clause-noted c = λ events before noted.
    rw append-nil (hears_inside events before c.args.self.now _ c.in-Ok.heard
    (c.args.from, c.args.byte) c.args.mark noted
    (rw c.in_ok-note.ensures.tap (c.in-Ok.ensures.led (passed (front_characters noted.front))
    (alone events before c.args.self.now noted)))
    (sym c.is_last.ensures ∙ c.if-is_last.false) c.in_ok-note.ensures.noted)
