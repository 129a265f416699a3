use Rattle.std.proofs.Common.{inl, inr, sym, subst, ap, ◌∙◌}
use Rattle.std.specs.List.{AllByRecursion}
use Rattle.t0_core.specs.Room.{Room}
use Rattle.object_card.specs.Agreed.{IsAgreed}
use Rattle.card_terminal.specs.Conversing.{point}
use Rattle.card_terminal.proofs.RunLemmas.{first_has_been, next_has_been, all_have_been, as_left, never_both}
use Rattle.card_terminal.proofs.session.Session.chain.Goals as goal
use Rattle.card_terminal.proofs.session.Session.chain.Goals.{in-None, in-Some+then-not-is_ok}

pub pieces-init : goal.pieces-init
pieces-init g c =
    let card = g.C.TpduCard in
    let from = point (card.standing c.args.self.now) c.args.plans.now.rest
    (g.W.Watch.hearing c.args.watch.now) in
    let same = c.into_iter-command-iterator.ensures.into_iter_gives in
    let done = c.go_through-status.ensures.over c.args.first c.requires.agreed.0
    c.begin-exchange.ensures.begins in
    record {
      been = as_left card.Does from _ _ _ _ _ _
          (sym same)
          (first_has_been card.Does from _ c.args.first c.args.others
          c.go_through-status.new.exchange done.0 c.go_through-status.result done.1 done.2);
      sound = c.go_through-status.ensures.sound;
      room = c.go_through-status.ensures.room;
      agreed = subst (λ cs. AllByRecursion (λ x. IsAgreed card.MayReceive card.MaySend x) cs)
          (sym same) c.requires.agreed.1;
    }

pub pieces-preserved : goal.pieces-preserved
pieces-preserved g c =
    let card = g.C.TpduCard in
    let from = point (card.standing c.args.self.now) c.args.plans.now.rest
    (g.W.Watch.hearing c.args.watch.now) in
    let steps = c.in-Some.ensures.steps in
    let agreed = subst (λ cs. AllByRecursion (λ x. IsAgreed card.MayReceive card.MaySend x) cs)
    steps c.pieces.invariant.agreed in
    let done = c.go_through-status-in-pieces.ensures.over c.in-Some.command agreed.0
    c.again-exchange.ensures.begins in
    record {
      been = next_has_been card.Does from _ _ _ c.next.new.self c.in-Some.command
          c.pieces.exchange c.go_through-status-in-pieces.new.exchange done.0 c.pieces.status
          c.go_through-status-in-pieces.result
          (as_left card.Does from _ _ _ _ _ _
          steps c.pieces.invariant.been)
          (c.is_ok.ensures.0 c.if-not-is_ok.false) done.1 done.2;
      sound = c.go_through-status-in-pieces.ensures.sound;
      room = c.go_through-status-in-pieces.ensures.room;
      agreed = agreed.1;
    }

pub returns : goal.returns
returns g c =
    let card = g.C.TpduCard in
    let from = point (card.standing c.args.self.now) c.args.plans.now.rest
    (g.W.Watch.hearing c.args.watch.now) in
    let been = c.pieces.invariant.been in
    all_have_been card.Does from _ _ _ c.pieces.exchange c.pieces.status c.new.result been
    (elim c.match-next.branch [
      | in-None w ↦ inl w.in-None.ensures.steps.0
      | in-Some+then-not-is_ok w ↦ inr
          (λ e. never_both w.is_ok.result (w.is_ok.ensures.1 e) w.if-not-is_ok.true)
    ])
    (c.new.ensures ∙ ap (λ (room : Room). record { status = c.pieces.status; content = room.bytes })
    c.into_room.ensures)
