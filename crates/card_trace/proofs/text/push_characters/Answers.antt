use Rattle.std.proofs.Common.{sym, ap, ◌∙◌, ◌++◌}
use Rattle.card_trace.specs.TraceText.{characters_text}
use Rattle.card_trace.proofs.TraceLemmas.{run_continues, run_changes}
use Rattle.card_trace.proofs.text.push_characters.Goals as goal
use Rattle.card_trace.proofs.text.push_characters.Goals.{then-ne+in_ok-push_run, else-ne}

pub loop-character-preserved : goal.loop-character-preserved
loop-character-preserved g c =
    let l = c.loop-character in
    let all = c.args.characters.now in
    let whole = c.args.text.now.items ++ characters_text all in
    elim c.if-ne.branch [
      | then-ne+in_ok-push_run w ↦
          rw (w.from-is, w.text-is) (run_changes l.text.items w.push_run.new.text.items whole
          l.run.items c.push.new.self.items c.if-ne.run.items l.from all w.as_slice.result.now
          l.character-index c.loop-character-test.true (sym c.ne.ensures ∙ w.if-ne.true)
          w.as_slice.ensures.value w.in_ok-push_run.ensures
          (ap (λ r. r.items) w.run-is ∙ w.clear.ensures.items) c.in_ok-push.ensures.items
          l.invariant)
      | else-ne w ↦
          rw (w.from-is, w.text-is) (run_continues l.text.items whole l.run.items
          c.push.new.self.items c.if-ne.run.items l.from all l.character-index
          c.loop-character-test.true (sym c.ne.ensures ∙ w.if-ne.false)
          (ap (λ r. r.items) w.run-is) c.in_ok-push.ensures.items l.invariant)
    ]
