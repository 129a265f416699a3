use Rattle.std.proofs.Common.{[], ◌∷◌, refl}
use Rattle.std.proofs.lemmas.Result.{IfErr-weaker, on_ok_weaker}
use Rattle.trace_explain.specs.declared.read.entry.Entry.TheVariants as entry
use Rattle.trace_explain.specs.Noted.{Reset}
use Rattle.trace_explain.proofs.AccountLemmas.{boxes_stay}
use Rattle.trace_explain.proofs.ExplainedLemmas.{explains_from, explains_nothing, line_stops, read_on_hears}
use Rattle.trace_explain.proofs.explainer.Explainer.take.Goals as goal

pub returns-in-Characters-clause-explained : goal.returns-in-Characters-clause-explained
returns-in-Characters-clause-explained c = λ events before says h.
    let source = c.in-Characters.source in
    on_ok_weaker c.characters.result
    (λ (more, takes, explains). (
      more,
      (
        entry.Characters source c.in-Characters.bytes,
        rw c.in-Characters.is at says,
        rw (c.take.ensures, c.as_slice.ensures.value) at takes,
      ),
      explains_from boxes_stay explains,
    ))
    (c.characters.ensures.explained events before
    (h.0, (h.1.0, h.1.1, read_on_hears source _ c.take.ensures h.1.2)))

pub returns-in-Characters-clause-stops : goal.returns-in-Characters-clause-stops
returns-in-Characters-clause-stops c = λ events before says h.
    let source = c.in-Characters.source in
    IfErr-weaker c.characters.result _ _
    (λ f stops. line_stops _ f c.args.line.now _ source c.in-Characters.bytes _ events before
    c.args.self.now (rw c.in-Characters.is at says) c.take.ensures c.as_slice.ensures.value stops)
    (c.characters.ensures.stops events before
    (h.0, (h.1.0, h.1.1, read_on_hears source _ c.take.ensures h.1.2)))

pub returns-in_ok-note-in-Note-clause-explained : goal.returns-in_ok-note-in-Note-clause-explained
returns-in_ok-note-in-Note-clause-explained c = λ events before says h. (
  [],
  (entry.Note, rw c.in-Note.is at says, (refl, refl)),
  explains_nothing events before _ h c.in_ok-note-in-Note.ensures,
)

pub returns-in_ok-reset-in-Reset-clause-explained :
    goal.returns-in_ok-reset-in-Reset-clause-explained
returns-in_ok-reset-in-Reset-clause-explained c = λ events before says h. (
  Reset ∷ [],
  (entry.Reset, rw c.in-Reset.is at says, (refl, c.in_ok-reset-in-Reset.ensures.position)),
  c.in_ok-reset-in-Reset.ensures.explained events before h,
)
