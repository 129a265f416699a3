use Rattle.std.proofs.Common.{Err, refl, sym, ap, ◌≡◌, ◌∙◌}
use Rattle.std.specs.Str.Lines.{lines}
use Rattle.card_trace.specs.Script.{Building}
use Rattle.card_trace.specs.ScriptFaults.{ScriptStops}
use Rattle.card_trace.proofs.ScriptFaultLemmas.{few_lines, fault_passed, stops_unread}
use Rattle.card_trace.proofs.ScriptLoopLemmas.{none_yet, one_more, all_done, stops_at}
use Rattle.card_trace.proofs.player.run_script.Goals as goal

pub loop-line-init : goal.loop-line-init
loop-line-init g c =
    let s = g.R.Runner.script in
    (Building s.empty, ap (λ t. Building t) (sym c.table.ensures), none_yet s _ _ _ _ refl refl)

pub loop-line-preserved : goal.loop-line-preserved
loop-line-preserved g c =
    let s = g.R.Runner.script in
    let items = c.in_ok-script.script.items in
    let are_lines : c.into_iter-line-iterator.result ≡ lines items =
    c.into_iter-line-iterator.ensures.into_iter_gives ∙ c.of-line-items.ensures
    ∙ ap lines c.as_slice.ensures.value in
    let (state, stands, so_far) = c.loop-line.invariant in
    let (text, next, now, appends, does) = c.in_ok-player.ensures.played state stands in (
      next,
      now,
      one_more s state next _ _ _ c.in-Some.line.now text _ _ _ _ _ so_far c.in-Some.ensures.steps
          (few_lines _ items are_lines c.in_ok-script.ensures.fits)
          c.saturating_add-number.ensures appends does,
    )

pub returns-clause-written : goal.returns-clause-written
returns-clause-written g c =
    let items = c.in_ok-script.script.items in
    let are_lines : c.into_iter-line-iterator.result ≡ lines items =
    c.into_iter-line-iterator.ensures.into_iter_gives ∙ c.of-line-items.ensures
    ∙ ap lines c.as_slice.ensures.value in
    all_done g.R.Runner.script _ _ _ _ _ _ _ items c.in_ok-script.ensures.whole are_lines
    c.in-None.ensures.steps.0 c.loop-line.invariant.2

pub returns-in_err-player-clause-stops : goal.returns-in_err-player-clause-stops
returns-in_err-player-clause-stops g c =
    let s = g.R.Runner.script in
    let items = c.in_ok-script.script.items in
    let are_lines : c.into_iter-line-iterator.result ≡ lines items =
    c.into_iter-line-iterator.ensures.into_iter_gives ∙ c.of-line-items.ensures
    ∙ ap lines c.as_slice.ensures.value in
    let script = g.I.Read.remaining c.args.reader.now in
    let old = g.W.Write.contents c.args.writer.now in
    let new = g.W.Write.contents c.play.new.writer in
    let (state, stands, so_far) = c.loop-line.invariant in
    fault_passed c.from_residual-in_err-player.result c.in_err-player.field-0.0
    (ScriptStops s script old new)
    c.from_residual-in_err-player.ensures.1
    (stops_at s state _ _ _ c.in-Some.line.now old _ new _ _ script items
    c.in_err-player.field-0.0 c.in_ok-script.ensures.whole are_lines so_far
    c.in-Some.ensures.steps (few_lines _ items are_lines c.in_ok-script.ensures.fits)
    c.saturating_add-number.ensures (c.in_err-player.ensures.fault state stands))

pub returns-in_err-script-clause-stops : goal.returns-in_err-script-clause-stops
returns-in_err-script-clause-stops g c =
    let s = g.R.Runner.script in
    let script = g.I.Read.remaining c.args.reader.now in
    let old = g.W.Write.contents c.args.writer.now in
    fault_passed c.from_residual.result c.in_err-script.field-0.0 (ScriptStops s script old old)
    c.from_residual.ensures.1
    (stops_unread s script old c.in_err-script.field-0.0 c.in_err-script.ensures.fault
    (λ same. c.in_err-script.ensures.too_long (ap (λ f. Err f) same)))
