use Rattle.std.proofs.Common.{arith, [], ◌+◌, ◌∷◌, ◌++◌, sym, ap, subst, ◌∙◌, map}
use Rattle.std.proofs.lemmas.List.{map-append}
use Rattle.t1_core.specs.Carried.{HasCarried, answers_in}
use Rattle.t1_core.specs.TerminalSide.{has_stopped}
use Rattle.t1_core.proofs.CardSteps.{on_err}
use Rattle.t1_core.proofs.Carrying.{SomeConversed, first_of, is_over, list_conversed, none_conversed, none_yet, one_more_carried, one_more_conversed, some_conversed}
use Rattle.t1_core.proofs.dialogue.converse.Goals as goal
use Rattle.t1_core.proofs.dialogue.converse.Goals.{else-loop-command-test, then-loop-command-test+in_ok-carry+then-not-is_ready}

pub loop-command-init : goal.loop-command-init
loop-command-init g c = record {
  ready = c.new-ends.ensures.ready;
  carried = subst (λ answers. HasCarried g.C.Applet (first_of g.C.Applet (λ v. v.items)
      c.args.settings (g.C.Applet.standing c.args.applet) (g.L.Line.passed c.args.line.now)
      c.args.commands.now 0 answers) (g.L.Line.passed c.args.line.now) c.new-ends.result)
      (sym c.new-answers.ensures.items)
      (c.new-ends.ensures.led c.args.settings (g.L.Line.passed c.args.line.now)
      c.in_ok-terminal.ensures);
}

pub carry-requires-clause-led : goal.carry-requires-clause-led
carry-requires-clause-led g c = (_, c.loop-command.invariant.carried)

pub loop-command-preserved : goal.loop-command-preserved
loop-command-preserved g c =
    let ready = sym c.is_ready.ensures ∙ c.if-not-is_ready.false in
    let t = c.carry.new.self.terminal in
    let answers = c.loop-command.answers.items in
    record {
      ready = ready;
      carried = one_more_carried g.C.Applet (λ v. v.items) c.args.settings
          (g.C.Applet.standing c.args.applet) (g.L.Line.passed c.args.line.now)
          c.args.commands.now c.loop-command.command-index c.command-item.result answers
          c.push.new.self.items c.deref.result.now (g.L.Line.passed c.carry.new.line)
          c.carry.new.self
          (c.in_ok-carry.ensures.led _ c.loop-command.invariant.carried) c.loop-command-test.true
          c.command-item.is c.deref.ensures.value
          (ap (λ p. answers_in p t.got (map (λ v. v.items) answers)) (is_over t.phase ready)
          ∙ ap (λ bytes. map (λ v. v.items) answers ++ bytes ∷ [])
          (sym (c.in_ok-extend_from_slice.ensures.items
          ∙ ap (λ bytes. bytes ++ c.response.result.now) c.new-answer.ensures.items
          ∙ c.response.ensures))
          ∙ sym (ap (λ l. map (λ v. v.items) l) c.in_ok-push.ensures.items
          ∙ map-append (λ v. v.items) answers (c.extend_from_slice.new.self ∷ [])));
    }

pub returns-clause-talked : goal.returns-clause-talked
returns-clause-talked g c =
    let first = g.C.Applet.standing c.args.applet in
    let before = g.L.Line.passed c.args.line.now in
    let vs = c.args.commands.now in
    let answers = c.loop-command.answers.items in
    let n = c.loop-command.command-index in
    let told = c.loop-command.invariant in
    elim c.loop-command-test.branch [
      | else-loop-command-test w ↦
          rw (c.into_applet.ensures, c.fault.ensures, w.line-is, w.ends-is)
          (list_conversed g.C.Applet (λ v. v.items) c.args.settings first before vs n answers
          (g.L.Line.passed c.loop-command.line) c.loop-command.ends told.carried
          (ap has_stopped (is_over c.loop-command.ends.terminal.phase told.ready))
          (λ ready. w.loop-command-test.false))
      | then-loop-command-test+in_ok-carry+then-not-is_ready w ↦
          let t = w.carry.new.self.terminal in
          let not_ready = sym w.is_ready.ensures ∙ w.if-not-is_ready.true in
          rw (c.into_applet.ensures, c.fault.ensures, w.line-is, w.ends-is)
          (list_conversed g.C.Applet (λ v. v.items) c.args.settings first before vs (n + 1) answers
          (g.L.Line.passed w.carry.new.line) w.carry.new.self
          (one_more_carried g.C.Applet (λ v. v.items) c.args.settings first before vs n
          w.command-item.result answers answers w.deref.result.now
          (g.L.Line.passed w.carry.new.line) w.carry.new.self
          (w.in_ok-carry.ensures.led _ told.carried) w.loop-command-test.true w.command-item.is
          w.deref.ensures.value
          (none_yet t.phase t.got (map (λ v. v.items) answers) not_ready))
          w.in_ok-carry.ensures.stopped (λ ready. absurd (let no = sym ready ∙ not_ready in cc)))
    ]

pub returns-in_err-rooms-clause-memory : goal.returns-in_err-rooms-clause-memory
returns-in_err-rooms-clause-memory g c =
    on_err _ (none_conversed g.C.Applet (λ v. v.items) c.args.settings c.args.applet
    (g.L.Line.passed c.args.line.now) c.args.commands.now)

pub returns-in_err-terminal-clause-memory : goal.returns-in_err-terminal-clause-memory
returns-in_err-terminal-clause-memory g c =
    on_err _ (none_conversed g.C.Applet (λ v. v.items) c.args.settings c.args.applet
    (g.L.Line.passed c.args.line.now) c.args.commands.now)

pub returns-in_err-carry-clause-memory : goal.returns-in_err-carry-clause-memory
returns-in_err-carry-clause-memory g c =
    let told = c.loop-command.invariant in
    let lt = c.loop-command-test.true in
    let at = g.L.Line.passed c.args.line.now in
    let first = g.C.Applet.standing c.args.applet in
    on_err _ (subst (λ now. SomeConversed g.C.Applet (λ v. v.items) c.args.settings first at
    c.args.commands.now now) (sym c.in_err-carry.ensures.nothing_sent.1)
    (some_conversed g.C.Applet (λ v. v.items) c.args.settings first at
    c.args.commands.now c.loop-command.command-index c.loop-command.answers.items
    (g.L.Line.passed c.loop-command.line) c.loop-command.ends told.carried
    (omega (arith, lt)) told.ready))

pub returns-in_err-extend_from_slice-clause-memory :
    goal.returns-in_err-extend_from_slice-clause-memory
returns-in_err-extend_from_slice-clause-memory g c =
    let ready = sym c.is_ready.ensures ∙ c.if-not-is_ready.false in
    on_err _ (one_more_conversed g.C.Applet (λ v. v.items) c.args.settings
    (g.C.Applet.standing c.args.applet) (g.L.Line.passed c.args.line.now)
    c.args.commands.now c.loop-command.command-index c.command-item.result
    c.loop-command.answers.items c.deref.result.now (g.L.Line.passed c.carry.new.line)
    c.carry.new.self (c.in_ok-carry.ensures.led _ c.loop-command.invariant.carried)
    c.loop-command-test.true c.command-item.is c.deref.ensures.value ready)

pub returns-in_err-push-clause-memory : goal.returns-in_err-push-clause-memory
returns-in_err-push-clause-memory g c =
    let ready = sym c.is_ready.ensures ∙ c.if-not-is_ready.false in
    on_err _ (one_more_conversed g.C.Applet (λ v. v.items) c.args.settings
    (g.C.Applet.standing c.args.applet) (g.L.Line.passed c.args.line.now)
    c.args.commands.now c.loop-command.command-index c.command-item.result
    c.loop-command.answers.items c.deref.result.now (g.L.Line.passed c.carry.new.line)
    c.carry.new.self (c.in_ok-carry.ensures.led _ c.loop-command.invariant.carried)
    c.loop-command-test.true c.command-item.is c.deref.ensures.value ready)
