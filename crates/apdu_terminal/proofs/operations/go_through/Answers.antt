use Rattle.std.proofs.Common.{[], refl, sym, ap, ◌∙◌}
use Rattle.t0_core.specs.Room.{Room}
use Rattle.apdu_terminal.proofs.DrivenLemmas.{due_is_agreed, over_then, taken_on}
use Rattle.apdu_terminal.proofs.operations.go_through.Goals as goal

pub talk-init : goal.talk-init
talk-init g c = record {
  rests = c.requires.rests;
  limit = c.requires.limit.1;
  room = c.requires.rooms.0;
  gather = c.requires.rooms.1;
  sound = c.is_sound-sound.ensures;
  had = λ commands agreed leads. ([], leads, refl);
}

pub answered-response-requires-clause-agreed : goal.answered-response-requires-clause-agreed
answered-response-requires-clause-agreed g c =
    let card = g.C.TpduCard in
    let (commands, agreed, leads) = c.requires.begun in
    let (pairs, led, goes) = c.talk.invariant.had commands agreed leads in
    due_is_agreed card.MayReceive card.MaySend commands pairs c.talk.terminal.operation
    c.in-Some.due (sym c.in-Some.ensures) agreed led

pub unreachable-requires : goal.unreachable-requires
unreachable-requires g c =
    let (status, done, responds) = c.answered-response.ensures.responds in
    c.in_default-status.not-Some status ((c.status.ensures status).1 done)

pub unwrap-requires : goal.unwrap-requires
unwrap-requires g c =
    let card = g.C.TpduCard in
    let m = g.met.C.DataCard.means in
    let (commands, agreed, leads) = c.requires.begun in
    (taken_on card.Does card.after_reset m.0 _ _ _ _ _ commands c.talk.terminal.operation
    c.responded.new.self.operation c.in-Some.due c.answered-response.result _ _
    c.responded.result m.2 (m.1 c.args.end.now.card) c.talk.invariant.sound
    (c.responded.ensures.limit.stays ∙ c.talk.invariant.limit.stays ∙ c.requires.limit.0)
    c.responded.ensures.limit.is_room (sym c.in-Some.ensures)
    (record {
      over = c.answered-response.ensures.responds;
      ended = (c.status.ensures c.in-Some-status.status).0 c.in-Some-status.is;
      bytes = c.bytes.ensures.value ∙ ap (λ (r : Room). r.bytes) c.into_gather-room.ensures;
    })
    c.responded.ensures.responding (c.talk.invariant.had commands agreed leads)).0

pub talk-preserved : goal.talk-preserved
talk-preserved g c =
    let card = g.C.TpduCard in
    let m = g.met.C.DataCard.means in
    record {
      rests = c.answered-response.ensures.rests;
      limit = record {
        stays = c.responded.ensures.limit.stays ∙ c.talk.invariant.limit.stays;
        is_room = c.responded.ensures.limit.is_room;
      };
      room = ap (λ (r : Room). r.limit) c.into_gather-room.ensures
          ∙ c.answered-response.ensures.room ∙ c.talk.invariant.room;
      gather = c.answered-response.ensures.limit ∙ c.talk.invariant.gather;
      sound = c.talk.invariant.sound;
      had = λ commands agreed leads.
          (taken_on card.Does card.after_reset m.0 _ _ _ _ _ commands c.talk.terminal.operation
          c.responded.new.self.operation c.in-Some.due c.answered-response.result _ _
          c.responded.result m.2 (m.1 c.args.end.now.card) c.talk.invariant.sound
          (c.responded.ensures.limit.stays ∙ c.talk.invariant.limit.stays ∙ c.requires.limit.0)
          c.responded.ensures.limit.is_room (sym c.in-Some.ensures)
          (record {
            over = c.answered-response.ensures.responds;
            ended = (c.status.ensures c.in-Some-status.status).0 c.in-Some-status.is;
            bytes = c.bytes.ensures.value ∙ ap (λ (r : Room). r.bytes) c.into_gather-room.ensures;
          })
          c.responded.ensures.responding (c.talk.invariant.had commands agreed leads)).1;
    }

pub returns-clause-over : goal.returns-clause-over
returns-clause-over g c =
    let card = g.C.TpduCard in
    let m = g.met.C.DataCard.means in
    let (commands, agreed, leads) = c.requires.begun in
    over_then card.Does card.after_reset m.0 _ _ _ _ commands c.talk.terminal.operation m.2
    (m.1 c.args.end.now.card) c.talk.invariant.sound
    (c.talk.invariant.limit.stays ∙ c.requires.limit.0) c.talk.invariant.limit.is_room
    c.in_default.ensures (c.talk.invariant.had commands agreed leads)
