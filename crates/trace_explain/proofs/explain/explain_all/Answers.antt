use Rattle.std.proofs.Common.{◌∙◌, ap, refl, subst, sym}
use Rattle.std.proofs.lemmas.Option.{IfSome_then}
use Rattle.std.proofs.lemmas.Result.{IfErr-weaker, err_from_is_err_and, on_ok_weaker}
use Rattle.trace_explain.specs.Account.{first_out, out_with}
use Rattle.trace_explain.specs.Lines.{Position}
use Rattle.trace_explain.specs.Trace.{IsOfEnd}
use Rattle.trace_explain.proofs.AccountLemmas.{writes_reports}
use Rattle.trace_explain.proofs.TraceLemmas.{end_sink, ended_stops, shown_as, stops_as}
use Rattle.trace_explain.proofs.explain.explain_all.Goals as goal

pub returns-clause-stops : goal.returns-clause-stops
returns-clause-stops g c = λ layout mask reading ready.
    IfErr-weaker c.outcome.result _ _ (λ f ends.
    IfSome_then (g.R.Read.remaining c.args.reader.now)
    (c.in_ok-outcome.ensures.explained (first_out layout mask) reading ready)
    (λ bytes h. let P : Position → Type 0 = λ s. IsOfEnd f s.has_characters in
    ended_stops _ f (subst P c.in_ok-end.ensures.position ends) h)) c.outcome.ensures.ended

pub returns-clause-explained : goal.returns-clause-explained
returns-clause-explained g c = λ layout mask reading ready.
    let front = first_out layout mask in
    on_ok_weaker c.outcome.result (λ has_characters.
    IfSome_then (g.R.Read.remaining c.args.reader.now)
    (c.in_ok-outcome.ensures.explained front reading ready)
    (λ bytes h. (
      _,
      shown_as _ _ (λ reports t h.
          writes_reports (out_with front h.0) reports t layout mask _ _ _
          c.explain_chunks-outcome.new.explainer c.end.new.self refl h.1
          c.in_ok-write_output.ensures.written h.2 c.in_ok-end.ensures.adds
          (sym c.write_output.ensures.out.is_cut ∙ c.in_ok-is_whole.ensures.whole)
          (ap (λ (s : Position). s.reading.of_tpdus) c.in_ok-end.ensures.position)) h,
      ap (λ (s : Position). s.has_characters) (sym c.in_ok-end.ensures.position) ∙ has_characters,
    ))) c.outcome.ensures.has_characters

pub returns-in_err-outcome-clause-stops : goal.returns-in_err-outcome-clause-stops
returns-in_err-outcome-clause-stops g c = λ layout mask reading ready.
    let (f, is, same) = err_from_is_err_and c.from_residual-in_err-outcome.result
    c.from_residual-in_err-outcome.ensures.1 in
    let front = first_out layout mask in
    rw (is, same) (IfSome_then (g.R.Read.remaining c.args.reader.now)
    (c.in_err-outcome.ensures.stops front reading ready)
    (λ bytes h. stops_as _ _ _ _ _ (λ reports t h.
    writes_reports (out_with front h.0) reports t layout mask _ _ _
    c.explain_chunks-outcome.new.explainer c.end.new.self refl h.1
    c.in_ok-write_output.ensures.written h.2 c.in_ok-end.ensures.adds
    (sym c.write_output.ensures.out.is_cut ∙ c.in_ok-is_whole.ensures.whole)
    (ap (λ (s : Position). s.reading.of_tpdus) c.in_ok-end.ensures.position)) h))

pub returns-clause-fails : goal.returns-clause-fails
returns-clause-fails g c =
    IfErr-weaker c.outcome.result _ _ (end_sink g.W.Sink.fails _) c.outcome.ensures.ended
