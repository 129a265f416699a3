use Rattle.std.proofs.Common.{ℕ, List, [], ◌++◌, append-nil, append_assoc, sym, subst, arith, length-append, length-take, take, IfSome}
use Rattle.std.proofs.KnownBytes.{Appends-nil, Appends-trans, Consumes-nil, Consumes-trans}
use Rattle.std.proofs.lemmas.Result.{IfErr-weaker, on_ok_weaker}
use Rattle.std.specs.Io.KnownBytes.{Appends}
use Rattle.std.specs.String.{string_bytes}
use Rattle.trace_explain.specs.Account.{out_with}
use Rattle.trace_explain.specs.Reports.{Report}
use Rattle.trace_explain.specs.Trace.{HasLeft, HasReceived, StopsIn, lines_of}
use Rattle.trace_explain.proofs.TraceLemmas.{fault_passed, limit_kept, limit_passed, lines_sink, of_all, of_known, shown_as, still_received, stops_as}
use Rattle.trace_explain.proofs.explain.explain_chunks.Goals as goal

pub reading-init : goal.reading-init
reading-init g c = (
  [],
  Consumes-nil (g.R.Read.remaining c.args.reader.now),
  omega arith,
  [],
  Appends-nil (g.W.Sink.contents c.args.writer.now),
  λ first reading ready left.
      let P : List ℕ → Type 0 = λ x. HasReceived (record first { text = x }) reading
      (lines_of left) [] left c.args.explainer.now in
      rw c.new-line.ensures.items (subst P (sym (append-nil first.text)) (ready left)),
)

pub reading-preserved : goal.reading-preserved
reading-preserved g c =
    let (read, reads, size_is, more, appends, comes) = c.reading.invariant in
    let chunk = take c.in-Ok.count c.read.new.buf in
    let text = string_bytes c.explain_chunk.new.explainer.teller.output.sheet.text in (
      read ++ chunk,
      Consumes-trans _ _ _ read chunk reads c.in-Ok.ensures.bytes.0,
      omega (
        arith,
        size_is,
        length-append read chunk,
        length-take c.in-Ok.count c.read.new.buf,
        c.in-Ok.ensures.bound,
      ),
      more ++ text,
      Appends-trans _ _ _ more text appends c.in_ok-write_output-in-Ok.ensures.written,
      λ first reading ready left.
          rw (append_assoc read chunk left, ← append_assoc first.text more text)
          (still_received c.explain_chunk.new.explainer c.write_output.new.sheet
          c.write_output.ensures.out
          (c.in_ok-explain_chunk-in-Ok.ensures.explained (out_with first more) reading _ left
          (comes first reading ready (chunk ++ left)))),
    )

pub returns-in-Ok-eq0 : goal.returns-in-Ok-eq0
returns-in-Ok-eq0 g c =
    let (read, reads, size_is, more, appends, comes) = c.reading.invariant in
    let none = c.in-Ok-eq0.field-0-test in
    let ends = c.in-Ok-eq0.ensures.bytes.1 none (omega (arith, c.read.auto.buf)) in
    let a = g.R.Read.remaining c.args.reader.now in
    let last = c.in-Ok-eq0.ensures.bytes.0 in
    record {
      explained = λ first reading ready.
          on_ok_weaker c.explain_last.result
          (λ h. of_all a _ _ read c.read.new.buf _ none reads last ends
          (shown_as _ _ (λ reports t k. (more, appends, k)) h))
          (c.explain_last.ensures.explained (out_with first more) reading _
          (rw c.as_slice.ensures.value (comes first reading ready [])));
      stops = λ first reading ready.
          IfErr-weaker c.explain_last.result _ _
          (λ f h. of_all a _ _ read c.read.new.buf _ none reads last ends
          (stops_as _ _ _ _ f (λ reports t k. (more, appends, k)) h))
          (c.explain_last.ensures.stops (out_with first more) reading _
          (rw c.as_slice.ensures.value (comes first reading ready [])));
      limited = of_all a _ _ read c.read.new.buf _ none reads last ends
          (limit_kept c.explain_last.result read c.reading.size size_is
          (omega (arith, c.reading-test.true)) c.explain_last.ensures.of_lines);
      fails = IfErr-weaker c.explain_last.result _ _ (lines_sink g.W.Sink.fails)
          c.explain_last.ensures.of_lines;
    }

pub returns-in_err-explain_chunk-in-Ok-clause-stops :
    goal.returns-in_err-explain_chunk-in-Ok-clause-stops
returns-in_err-explain_chunk-in-Ok-clause-stops g c = λ first reading ready.
    let (read, reads, size_is, more, appends, comes) = c.reading.invariant in
    let chunk = take c.in-Ok.count c.read.new.buf in
    let f = c.in_err-explain_chunk-in-Ok.field-0.0 in
    let a = g.R.Read.remaining c.args.reader.now in
    let Left : List Report → Report → Type 0 = λ reports t. (more : List ℕ)
    × Appends (g.W.Sink.contents c.args.writer.now) (g.W.Sink.contents c.reading.writer) more
    × HasLeft (out_with first more) c.explain_chunk.new.explainer reports t in
    fault_passed c.from_residual.result f
    (λ x. IfSome a (λ bytes. StopsIn Left reading (lines_of bytes) x)) c.from_residual.ensures.1
    (of_known a _ (read ++ chunk) (λ bytes. StopsIn Left reading (lines_of bytes) f)
    (Consumes-trans _ _ _ read chunk reads c.in-Ok.ensures.bytes.0)
    (λ left. rw (append_assoc read chunk left)
    (stops_as _ Left _ _ f (λ reports t k. (more, appends, k))
    (c.in_err-explain_chunk-in-Ok.ensures.stops (out_with first more) reading _ left
    (comes first reading ready (chunk ++ left))))))

pub returns-in_err-explain_chunk-in-Ok-clause-limited :
    goal.returns-in_err-explain_chunk-in-Ok-clause-limited
returns-in_err-explain_chunk-in-Ok-clause-limited g c =
    limit_passed c.from_residual.result c.in_err-explain_chunk-in-Ok.field-0.0
    (g.R.Read.remaining c.args.reader.now) c.from_residual.ensures.1
    c.in_err-explain_chunk-in-Ok.ensures.of_lines

pub returns-in_err-explain_chunk-in-Ok-clause-fails :
    goal.returns-in_err-explain_chunk-in-Ok-clause-fails
returns-in_err-explain_chunk-in-Ok-clause-fails g c =
    fault_passed c.from_residual.result c.in_err-explain_chunk-in-Ok.field-0.0 _
    c.from_residual.ensures.1
    (lines_sink g.W.Sink.fails c.in_err-explain_chunk-in-Ok.field-0.0
    c.in_err-explain_chunk-in-Ok.ensures.of_lines)
