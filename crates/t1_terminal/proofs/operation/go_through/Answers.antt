use Rattle.std.proofs.Common.{arith, [], ◌++◌, sym, ap, subst, ◌∙◌}
use Rattle.t1_terminal.specs.Operated.{fault_at}
use Rattle.t0_core.specs.CardSide.{EndOf}
use Rattle.apdu_terminal.specs.ApduOperations.{HasRoomFor}
use Rattle.t1_core.specs.TerminalSide.{is_ready}
use Rattle.t1_terminal.proofs.LineLemmas.{is_over, same_pair}
use Rattle.t1_terminal.proofs.OperateLemmas.{applet, gives_up, is_taken, leads_on, may_carry, none_taken, over_then, pair_now, sent_so, so_far, started_so}
use Rattle.t1_terminal.proofs.operation.go_through.Given.{Over}
use Rattle.t1_terminal.proofs.operation.go_through.Goals as goal

abbrev standing : (g : Over) → EndOf g.row.C.Denot → g.C.TpduCard.State
standing g e = g.C.TpduCard.standing e.card

pub talk-init : goal.talk-init
talk-init g c =
    record {
      ready = c.requires.ready;
      room = c.requires.room;
      limit = c.requires.limit.1;
      had = λ commands leads. (
        [],
        leads,
        none_taken (applet g.C.TpduCard.Does (standing g)) (g.L.Line.passed c.args.line.now)
            c.args.ends.now,
      );
    }

pub carry-requires-clause-led : goal.carry-requires-clause-led
carry-requires-clause-led g c =
    let m = g.met.C.DataCard.means in
    let now = g.L.Line.passed c.args.line.now in
    let (operation, commands, are, leads) = c.requires.begun in
    may_carry g.C.TpduCard.Does (standing g) m.0 now (g.L.Line.passed c.talk.line) c.args.ends.now
    c.talk.ends
    commands c.talk.terminal.operation
    (started_so g.C.TpduCard.Does (standing g) m.0 g.C.DataCard.state g.C.TpduCard.standing m.1 now
    c.args.ends.now
    c.requires.started)
    (c.talk.invariant.had commands leads)

pub returns-in-Some-fault : goal.returns-in-Some-fault
returns-in-Some-fault g c = λ operation commands are leads.
    let is_due = c.in-Some.ensures in
    let had = c.talk.invariant.had commands leads in
    gives_up g.C.TpduCard.Does (standing g) _ _ _ _ _ _ commands _ c.in-Some.due _ is_due
    (c.deref.ensures.value ∙ c.spell.ensures.bytes)
    c.in-Ok.ensures.led
    (sent_so g.C.TpduCard.Does (standing g) _ _ _ _ operation _ _ _
    c.a_due_command_is_agreed.ensures are is_due
    c.header-header.ensures.command had) had operation are c.in-Some-fault.fault c.told.result
    c.in-Some-fault.ensures
    (c.told.ensures ∙ ap (λ h. fault_at h c.in-Some-fault.fault) c.header-header.ensures.value)

pub parts-status-requires : goal.parts-status-requires
parts-status-requires g c =
    let m = g.met.C.DataCard.means in
    let (operation, commands, are, leads) = c.requires.begun in
    let is_due = c.in-Some.ensures in
    let had = c.talk.invariant.had commands leads in
    let (p, of, word, got, goes) =
    pair_now g.C.TpduCard.Does (standing g) _ _ _ _ _ _ commands _ c.in-Some.due _ is_due
    (c.deref.ensures.value ∙ c.spell.ensures.bytes)
    c.in-Ok.ensures.led
    (sent_so g.C.TpduCard.Does (standing g) _ _ _ _ operation _ _ _
    c.a_due_command_is_agreed.ensures are is_due
    c.header-header.ensures.command had) had c.carried_commands_are_a_dialogue.ensures
    c.in-Ok.ensures.stopped c.in_default-fault.ensures m.0
    (started_so g.C.TpduCard.Does (standing g) m.0 g.C.DataCard.state g.C.TpduCard.standing m.1 _ _
    c.requires.started) in
    (p.content, p.status, word, c.response.ensures ∙ got)

pub unwrap-requires : goal.unwrap-requires
unwrap-requires g c =
    let m = g.met.C.DataCard.means in
    let (operation, commands, are, leads) = c.requires.begun in
    let is_due = c.in-Some.ensures in
    let had = c.talk.invariant.had commands leads in
    let start = started_so g.C.TpduCard.Does (standing g) m.0 g.C.DataCard.state
    g.C.TpduCard.standing m.1 _ _
    c.requires.started in
    let (p, of, word, got, goes) =
    pair_now g.C.TpduCard.Does (standing g) _ _ _ _ _ _ commands _ c.in-Some.due _ is_due
    (c.deref.ensures.value ∙ c.spell.ensures.bytes)
    c.in-Ok.ensures.led
    (sent_so g.C.TpduCard.Does (standing g) _ _ _ _ operation _ _ _
    c.a_due_command_is_agreed.ensures are is_due
    c.header-header.ensures.command had) had c.carried_commands_are_a_dialogue.ensures
    c.in-Ok.ensures.stopped c.in_default-fault.ensures m.0 start in
    let content = c.parts-status.result.0.now in
    let status = c.parts-status.result.1 in
    is_taken g.C.TpduCard.Does m.0 (c.any_card_responds_so.ensures m.0 m.2)
    c.a_card_of_data_objects_is_taken.ensures.sound c.a_card_of_data_objects_is_taken.ensures.taken
    start.s.first (standing g c.carry.new.self.card.card) start.pairs had.0 p commands _ _
    c.in-Some.due content status _ start.sound goes had.1 (sym is_due)
    (same_pair p (record { command = c.in-Some.due; content = content; status = status }) of
    (sym got ∙ sym c.response.ensures ∙ c.parts-status.ensures))
    c.responded.ensures.responding
    (subst (λ n. HasRoomFor n c.responded.new.self.operation)
    (c.responded.ensures.limit.stays ∙ c.talk.invariant.limit.stays ∙ c.requires.limit.0)
    c.responded.ensures.limit.is_room)

pub talk-preserved : goal.talk-preserved
talk-preserved g c =
    let t = c.carry.new.self.terminal in
    let is_due = c.in-Some.ensures in
    let (operation, commands_0, are, leads_0) = c.requires.begun in
    record {
      ready = ap is_ready (is_over t.phase t c.in-Ok.ensures.stopped
          (sym c.in_default-fault.ensures));
      room = (let a = c.spell.ensures.room in let b = c.talk.invariant.room in omega (arith, a, b));
      limit = record {
        stays = c.responded.ensures.limit.stays ∙ c.talk.invariant.limit.stays;
        is_room = c.responded.ensures.limit.is_room;
      };
      had = λ commands leads.
          let had = c.talk.invariant.had commands leads in
          leads_on g.C.TpduCard.Does (standing g) _ _ _ _ _ _ commands _ c.in-Some.due _ is_due
          (c.deref.ensures.value ∙ c.spell.ensures.bytes)
          c.in-Ok.ensures.led
          (sent_so g.C.TpduCard.Does (standing g) _ _ _ _ operation _ _ _
          c.a_due_command_is_agreed.ensures are is_due c.header-header.ensures.command
          (c.talk.invariant.had commands_0 leads_0)) had
          c.carried_commands_are_a_dialogue.ensures c.in-Ok.ensures.stopped
          c.in_default-fault.ensures c.parts-status.result.0.now c.parts-status.result.1
          c.responded.new.self.operation (sym c.response.ensures ∙ c.parts-status.ensures)
          (rw c.unwrap.ensures at (c.responded.ensures.responding.led commands had.0 had.1));
    }

pub returns : goal.returns
returns g c =
    let m = g.met.C.DataCard.means in
    let now = g.L.Line.passed c.args.line.now in
    let (operation, commands, are, leads) = c.requires.begun in
    let had = c.talk.invariant.had commands leads in
    let start = started_so g.C.TpduCard.Does (standing g) m.0 g.C.DataCard.state
    g.C.TpduCard.standing m.1 now
    c.args.ends.now c.requires.started in (
      c.talk.invariant.ready,
      over_then g.C.TpduCard.Does m.0 (c.any_card_responds_so.ensures m.0 m.2)
          c.a_card_of_data_objects_is_taken.ensures.sound
          c.a_card_of_data_objects_is_taken.ensures.fine start.s.first
          (standing g c.talk.ends.card.card) start.pairs had.0 commands
          c.talk.terminal.operation start.sound
          (so_far g.C.TpduCard.Does (standing g) c.carried_commands_are_a_dialogue.ensures start.s
          (start.pairs ++ had.0) (g.L.Line.passed c.talk.line) c.talk.ends
          (had.2 start.s start.pairs start.taken) c.talk.invariant.ready) had.1
          (subst (λ n. HasRoomFor n c.talk.terminal.operation)
          (c.talk.invariant.limit.stays ∙ c.requires.limit.0) c.talk.invariant.limit.is_room)
          (sym c.in_default.ensures),
      c.talk.invariant.had,
    )
