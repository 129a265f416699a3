use Rattle.std.proofs.Common.{refl, ap, sym, ◌∙◌, inl, arith}
use Rattle.exchange_core.specs.ExchangeSide.{exchange_turn}
use Rattle.card_terminal.specs.Conversing.{next_plan}
use Rattle.card_terminal.specs.Line.{line, left}
use Rattle.card_terminal.proofs.SessionLemmas.{on_ok, still_going, still_sending, still_over, terminal_passed, on_too, listening_sends_nothing}
use Rattle.card_terminal.proofs.session.pass_characters.Goals as goal

pub unwrap-requires : goal.unwrap-requires
unwrap-requires g c =
    let (s, began) = c.requires in
    let l = line c.args.exchange.now c.args.end.now c.args.plans.now
    (g.W.Watch.hearing c.args.watch.now) in
    let byte = c.in-Sends.byte in
    let under = still_sending g.C.TpduCard s l byte began c.in-Sends.ensures.turn.turn_is in
    let goes = c.in-Sends.ensures.turn.goes_on s.command under.units under.tried under.front byte
    under.terminal refl in
    (c.take.ensures.goes_on (next_plan under.before.rest).cut under.front goes.0 under.stands.0
    goes.1).0

pub returns-in-Sends : goal.returns-in-Sends
returns-in-Sends g c = λ s began.
    let hearing = g.W.Watch.hearing in
    let plans = c.args.plans.now in
    let byte = c.in-Sends.byte in
    let l = line c.args.exchange.now c.args.end.now plans (hearing c.args.watch.now) in
    let step = terminal_passed g.C.TpduCard s l
    (line c.next.new.self c.take.new.self plans (hearing c.seen.new.self)) byte
    (still_sending g.C.TpduCard s l byte began c.in-Sends.ensures.turn.turn_is)
    (λ units tried front way. c.in-Sends.ensures.turn.goes_on s.command units tried front byte way
    refl) c.in-Sends.ensures.turn.limit refl
    (on_ok c.take.result _ c.unwrap.result c.unwrap.ensures c.take.ensures.taken)
    (on_ok c.take.result _ c.unwrap.result c.unwrap.ensures c.take.ensures.falls)
    (λ cut front later stands goes.
    let on = c.take.ensures.goes_on cut front later stands goes in
    (sym c.take.ensures.listening ∙ on.0, on.1, on.2)) c.seen.ensures in
    (step.0, inl step.1)

pub pass_from_card-requires-clause-under_way : goal.pass_from_card-requires-clause-under_way
pass_from_card-requires-clause-under_way g c =
    let hearing = g.W.Watch.hearing in
    let l = line c.args.exchange.now c.args.end.now c.args.plans.now (hearing c.args.watch.now) in
    let (s, began) = c.requires in
    let same = c.in-Listens.ensures.turn.stays listening_sends_nothing in (
      s,
      still_going g.C.TpduCard s
          (line c.next.new.self c.args.end.now c.args.plans.now (hearing c.args.watch.now))
          (on_too g.C.TpduCard s l _ same began)
          (ap exchange_turn same ∙ sym c.in-Listens.ensures.turn.turn_is),
    )

pub pass_from_card-requires-clause-listens : goal.pass_from_card-requires-clause-listens
pass_from_card-requires-clause-listens g c =
    ap exchange_turn (c.in-Listens.ensures.turn.stays listening_sends_nothing)
    ∙ sym c.in-Listens.ensures.turn.turn_is

pub returns-in_ok-pass_from_card-in-Listens : goal.returns-in_ok-pass_from_card-in-Listens
returns-in_ok-pass_from_card-in-Listens g c = λ s began.
    let l = line c.args.exchange.now c.args.end.now c.args.plans.now
    (g.W.Watch.hearing c.args.watch.now) in
    let same = c.in-Listens.ensures.turn.stays listening_sends_nothing in
    let passed = c.in_ok-pass_from_card-in-Listens.ensures s (on_too g.C.TpduCard s l _ same began)
    in
    let more = c.pass_data.ensures c.pass_from_card.new.plans s passed.1 in
    let run = c.pass_run.ensures c.pass_from_card.new.plans s more.1 in (
      omega (
        arith,
        ap (λ e. left (line e l.end l.cursor l.hearing)) same,
        passed.0,
        more.0,
        run.0,
      ),
      run.1,
    )

pub returns-in-Done : goal.returns-in-Done
returns-in-Done g c = λ s began.
    let l = line c.args.exchange.now c.args.end.now c.args.plans.now
    (g.W.Watch.hearing c.args.watch.now) in
    still_over g.C.TpduCard s l c.next.new.self c.in-Done.field-0 began
    c.in-Done.ensures.turn.turn_is c.in-Done.ensures.turn.stays
