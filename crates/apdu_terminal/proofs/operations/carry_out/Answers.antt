use Rattle.std.proofs.Common.{[], ◌∷◌, ◌++◌, ◌∙◌, ap}
use Rattle.card_terminal.specs.AgreedLaws.{keeps_to}
use Rattle.apdu_terminal.proofs.DrivenLemmas.{commands_agreed, is_talk}
use Rattle.apdu_terminal.proofs.operations.carry_out.Goals as goal

pub go_through-room-requires-clause-begun : goal.go_through-room-requires-clause-begun
go_through-room-requires-clause-begun g c =
    let card = g.C.TpduCard in
    let own = g.met.C.DataCard in
    let (commands, are, leads) = c.in_ok-begin.ensures.begun in (
      commands,
      commands_agreed card.MayReceive card.MaySend
          (keeps_to card.MayReceive card.MaySend own.receives own.sends) _ commands are,
      leads,
    )

pub returns-clause-talk : goal.returns-clause-talk
returns-clause-talk g c =
    let card = g.C.TpduCard in
    let own = g.met.C.DataCard in
    let (commands, are, leads) = c.in_ok-begin.ensures.begun in
    let (pairs, led, goes) = c.go_through-room.ensures.led commands
    (commands_agreed card.MayReceive card.MaySend
    (keeps_to card.MayReceive card.MaySend own.receives own.sends) _ commands are) leads in (
      c.in-Some.answer,
      c.append.ensures ∙ ap (λ given. given ++ c.in-Some.answer ∷ []) c.make_room.ensures.stays,
      is_talk card.Does _ _ commands pairs _ c.in-Some.answer are goes
          (c.in-Some.ensures.led commands pairs led),
    )
