use Rattle.std.proofs.Common.{ap, subst, ◌∙◌}
use Rattle.object_card.specs.State.{IsCardState}
use Rattle.card_terminal.specs.Conversing.{point}
use Rattle.exchange_core.specs.ComesToLaws.{over_turn}
use Rattle.card_terminal.proofs.RunLemmas.{never_caused, stays_sound, sound_at, ok_unless, when_ok, done_is_no_character, over_then, gone_from}
use Rattle.card_terminal.proofs.session.Session.go_through.Goals as goal

pub converse-requires-clause-begun : goal.converse-requires-clause-begun
converse-requires-clause-begun g c =
    let (command, agreed, way) = c.requires.begun in
    (command, (agreed, way, c.requires.room))

pub unwrap-requires : goal.unwrap-requires
unwrap-requires g c =
    let card = g.C.TpduCard in
    let m = g.met.C.DataCard.means in
    let now = g.W.Watch.hearing c.args.watch.now in
    let plans = c.args.plans.now in
    let first = card.standing c.self.inside.end.card in
    let (command, agreed, way) = c.requires.begun in
    ok_unless c.converse.result _ _ (c.converse.ensures command (agreed, way, c.requires.room))
    (λ fault. never_caused card.Does card.after_reset m.0 m.2 (point first plans.rest now) _
    command fault (sound_at m.0 g.C.DataCard.state card.standing m.1 c.self.inside.end.card
    c.args.self.now c.self.view_is c.requires.sound))

pub unreachable-requires : goal.unreachable-requires
unreachable-requires g c =
    let (command, agreed, way) = c.requires.begun in
    let over = when_ok c.converse.result c.unwrap.result _ _ c.unwrap.ensures
    (c.converse.ensures command (agreed, way, c.requires.room)) in
    c.in_default.not-Done over.status (c.next.ensures.turn.turn_is
    ∙ over_turn command c.converse.new.exchange over.units over.status over.terminal)

pub invariant_of-self : goal.invariant_of-self
invariant_of-self g c =
    let (command, agreed, way) = c.requires.begun in
    let over = when_ok c.converse.result c.unwrap.result _ _ c.unwrap.ensures
    (c.converse.ensures command (agreed, way, c.requires.room)) in
    over.at_rest

pub returns : goal.returns
returns g c =
    let card = g.C.TpduCard in
    let m = g.met.C.DataCard.means in
    let now = g.W.Watch.hearing c.args.watch.now in
    let plans = c.args.plans.now in
    let first = card.standing c.self.inside.end.card in
    let (command, agreed, way) = c.requires.begun in
    let over = when_ok c.converse.result c.unwrap.result _ _ c.unwrap.ensures
    (c.converse.ensures command (agreed, way, c.requires.room)) in
    record {
      over = λ named is_agreed begun.
          let its = when_ok c.converse.result c.unwrap.result _ _ c.unwrap.ensures
          (c.converse.ensures named (is_agreed, begun, c.requires.room)) in (
            its.units,
            over_then named c.converse.new.exchange c.next.new.self its.units its.status
                c.in-Done.status its.terminal
                (c.in-Done.ensures.turn.stays
                (λ byte. done_is_no_character c.in-Done.status byte))
                c.in-Done.ensures.turn.turn_is,
            gone_from card.Does (point first plans.rest now) _ _ _
                (ap (λ x. point (card.standing x) plans.rest now) c.self.view_is) its.gone,
          );
      sound = subst IsCardState (m.1 c.converse.new.end.card)
          (stays_sound card.Does card.after_reset m.0 m.2 (point first plans.rest now) _ _
          (sound_at m.0 g.C.DataCard.state card.standing m.1 c.self.inside.end.card
          c.args.self.now c.self.view_is c.requires.sound) over.gone);
      room = c.next.ensures.turn.limit ∙ over.room;
    }
