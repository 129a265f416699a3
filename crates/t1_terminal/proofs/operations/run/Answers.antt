use Rattle.std.proofs.Common.{◌≡◌, ◌∙◌, ◌++◌, ◌∷◌, [], List, refl, sym, ap, subst, true, map, drop, Some, None, arith, inr}
use Rattle.t1_core.specs.declared.line.Fates.{Fates}
use Rattle.t1_terminal.proofs.OperateLemmas.{applet}
use Rattle.std.specs.List.{flat_map}
use Rattle.t0_core.specs.CardSide.{EndOf}
use Rattle.object_card.specs.State.{IsCardState, is_idle}
use Rattle.card_terminal.specs.Operations.{operation_of}
use Rattle.card_terminal.specs.RunLaws.{HaveReplies, next_item, no_replies, one_more_reply}
use Rattle.apdu_terminal.specs.ApduTalk.{talk_pairs}
use Rattle.t1_core.specs.declared.settings.Settings.{Settings}
use Rattle.t1_terminal.specs.Operated.{StandsBetween, Start}
use Rattle.t1_terminal.proofs.RunLemmas.{Come, all_run, when_err, none_come, of_cards, one_comes, stopped_run}
use Rattle.t1_terminal.proofs.operations.run.Given.{Over}
use Rattle.t1_terminal.proofs.operations.run.Goals as goal

abbrev standing : (g : Over) → EndOf g.row.C.Denot → g.C.TpduCard.State
standing g e = g.C.TpduCard.standing e.card

abbrev started : (g : Over) → Settings → EndOf g.row.C.Denot → g.row.L.Denot
    → Start g.C.TpduCard.State
started g settings card line =
    record { settings = settings; first = standing g card; passed = g.L.Line.passed line }

pub loop-op-init : goal.loop-op-init
loop-op-init g c =
    let now = g.L.Line.passed c.args.line.now in
    let s = started g c.args.settings c.args.card c.args.line.now in
    record {
      ready = c.new-ends.ensures.ready;
      have = subst (λ given. HaveReplies (λ done replies. Come g.C.TpduCard.Does (standing g) s now
          c.new-ends.result done replies) c.args.ops.now [] 0 given) (sym c.new-answers.ensures)
          (no_replies _ c.args.ops.now []
          (none_come g.C.TpduCard.Does (standing g) s now c.new-ends.result
          (c.new-ends.ensures.led c.args.settings now c.in_ok-terminal.ensures)));
    }

pub operate-requires-clause-started : goal.operate-requires-clause-started
operate-requires-clause-started g c =
    let (talks, are, taken) = c.loop-op.invariant.have.come in (
      started g c.args.settings c.args.card c.args.line.now,
      flat_map talk_pairs talks,
      c.args.card.card,
      refl,
      subst (λ x. IsCardState (g.C.DataCard.state x)) c.card-2.ensures
          c.is_idle-sound.ensures.sound,
      taken,
    )

pub loop-op-preserved : goal.loop-op-preserved
loop-op-preserved g c =
    let (ready, talk) = rw c.in-Ok.is at c.in_ok-answer.ensures.operated in
    record {
      ready = ready;
      have = one_more_reply _ _ c.args.ops.now [] c.loop-op.op-index _ _ _ c.in-Ok.answer
          c.loop-op.invariant.have c.loop-op-test.true
          (next_item c.args.ops.now c.loop-op.op-index _ c.loop-op-test.true c.op-item.is)
          (c.append.ensures
          ∙ ap (λ given. given ++ c.in-Ok.answer ∷ []) c.make_room.ensures.stays)
          (one_comes g.C.TpduCard.Does (standing g) _ _ _ _ _ _ c.in-Ok.answer talk);
    }

pub returns-in-Err-clause-ran : goal.returns-in-Err-clause-ran
returns-in-Err-clause-ran g c =
    let m = g.met.C.DataCard.means in
    let first = c.args.card.card in
    let last = c.operate.new.ends.card.card.card in
    let before = g.L.Line.passed c.args.line.now in
    let mid = g.L.Line.passed c.loop-op.line in
    let after = g.L.Line.passed c.operate.new.line in
    let s = started g c.args.settings c.args.card c.args.line.now in
    let given = c.make_room.new.self.given in
    let n = c.loop-op.op-index in
    let next = next_item c.args.ops.now n _ c.loop-op-test.true c.op-item.is in
    rw c.into_applet.ensures
    (of_cards g.C.TpduCard.Does (standing g) m.0 g.C.DataCard.state g.C.TpduCard.standing m.1
    c.args.settings first last
    (map operation_of c.args.ops.now) given (Some c.in-Err.fault) before after
    (stopped_run g.C.TpduCard.Does (standing g) c.carried_commands_are_a_dialogue.ensures m.0
    (c.any_card_responds_so.ensures m.0 m.2)
    c.operations_by_whole_commands_are_single_steps.ensures c.args.ops.now s
    (subst (λ st. is_idle st.pending ≡ true) (sym (m.1 first)) c.requires.idle) mid after
    c.loop-op.ends c.operate.new.ends n given _ c.in-Err.fault
    (subst (λ gs. HaveReplies
    (λ done replies. Come g.C.TpduCard.Does (standing g) s mid c.loop-op.ends done
    replies) c.args.ops.now [] n gs) (sym c.make_room.ensures.stays) c.loop-op.invariant.have) next
    (rw c.in-Err.is at c.in_ok-answer.ensures.operated)
    c.an_operation_that_stops.ensures.before
    c.an_operation_that_stops.ensures.after))

pub returns-clause-ran : goal.returns-clause-ran
returns-clause-ran g c =
    let m = g.met.C.DataCard.means in
    let first = c.args.card.card in
    let last = c.loop-op.ends.card.card.card in
    let before = g.L.Line.passed c.args.line.now in
    let after = g.L.Line.passed c.loop-op.line in
    let s = started g c.args.settings c.args.card c.args.line.now in
    let n = c.loop-op.op-index in
    let have = c.loop-op.invariant.have in
    rw c.into_applet-2.ensures
    (of_cards g.C.TpduCard.Does (standing g) m.0 g.C.DataCard.state g.C.TpduCard.standing m.1
    c.args.settings first last
    (map operation_of c.args.ops.now) c.loop-op.answers.given None before after
    (all_run g.C.TpduCard.Does (standing g) c.carried_commands_are_a_dialogue.ensures m.0
    (c.any_card_responds_so.ensures m.0 m.2)
    c.operations_by_whole_commands_are_single_steps.ensures c.args.ops.now s
    (subst (λ st. is_idle st.pending ≡ true) (sym (m.1 first)) c.requires.idle) after
    c.loop-op.ends n c.loop-op.answers.given have c.loop-op.invariant.ready
    (omega (arith, c.loop-op-test.false, have.few))))

pub returns-in_err-make_room-clause-memory : goal.returns-in_err-make_room-clause-memory
returns-in_err-make_room-clause-memory g c =
    let have = c.loop-op.invariant.have in
    let (talks, are, taken) = have.come in
    when_err _ (inr (record {
      done = have.done;
      left = map operation_of (drop c.loop-op.op-index c.args.ops.now);
      all = have.ops_are;
      replies = have.replies;
      talks = talks;
      talk = are;
      ends = c.loop-op.ends;
      taken = taken;
      ready = c.loop-op.invariant.ready;
    }))

pub returns-in_err-answer-clause-memory : goal.returns-in_err-answer-clause-memory
returns-in_err-answer-clause-memory g c =
    let have = c.loop-op.invariant.have in
    let (talks, are, taken) = have.come in
    let same = c.in_err-answer.ensures.nothing_sent in
    let s = started g c.args.settings c.args.card c.args.line.now in
    let X : List Fates → Type 0 = λ now. StandsBetween (applet g.C.TpduCard.Does (standing g)) s
    (map operation_of c.args.ops.now) now in
    when_err _ (inr (subst X (sym same.1) (record {
      done = have.done;
      left = map operation_of (drop c.loop-op.op-index c.args.ops.now);
      all = have.ops_are;
      replies = have.replies;
      talks = talks;
      talk = are;
      ends = c.loop-op.ends;
      taken = taken;
      ready = c.loop-op.invariant.ready;
    })))
