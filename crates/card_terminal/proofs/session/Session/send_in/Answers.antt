use Rattle.std.proofs.Common.{sym, subst, ap, ◌∙◌}
use Rattle.t0_core.specs.Room.{Room}
use Rattle.apdu_core.specs.Shared.{Reply}
use Rattle.card_terminal.specs.Conversing.{point}
use Rattle.card_terminal.proofs.RunLemmas.{Sent}
use Rattle.card_terminal.proofs.session.Session.send_in.Goals as goal

pub returns : goal.returns
returns g c =
    let card = g.C.TpduCard in
    let from = point (card.standing c.args.self.now) c.args.plans.now.rest
    (g.W.Watch.hearing c.args.watch.now) in
    let to = point (card.standing c.go_through-status.new.self) c.go_through-status.new.plans.rest
    (g.W.Watch.hearing c.go_through-status.new.watch) in
    let over = c.go_through-status.ensures.over c.args.command c.requires.agreed
    c.begin-exchange.ensures.begins in
    let P : Reply → Type 0 = λ r. Sent card.Does from to c.args.command r in
    subst P (sym (c.new.ensures ∙ ap (λ (room : Room). record
    { status = c.go_through-status.result; content = room.bytes }) c.into_room.ensures))
    (over.0, over.1.gathers, over.2)
