use Rattle.std.proofs.Common.{refl, ◌∙◌, inl, inr}
use Rattle.std.proofs.lemmas.Result.{err_from_is_err_and}
use Rattle.t0_core.specs.declared.end.End.TheVariants.{Card}
use Rattle.card_terminal.specs.Line.{line}
use Rattle.card_terminal.proofs.SessionLemmas.{still_going, has_plan, turned, passed, gone_more, continues, has_stalled, has_overflown, card_falls, end_falls, silent_turn}
use Rattle.card_terminal.proofs.session.pass_from_card.Goals as goal

pub returns : goal.returns
returns g c = λ s began.
    let card = g.C.TpduCard in
    let hearing = g.W.Watch.hearing in
    let l = line c.args.exchange.now c.args.end.now c.args.plans.now (hearing c.args.watch.now) in
    let new = line c.take.new.self c.turn.new.self c.turn.new.plans (hearing c.seen.new.self) in
    let byte = c.in-Sends.byte in
    let under = still_going card s l began c.requires.listens in
    let turn = c.in-Sends.ensures in
    let has = has_plan card under.before under.front l c.turn.new.plans
    (silent_turn l.end.stage byte turn.whose) under.stands turn.plan (turn.cut byte refl) in
    elim (turned card s l c.turn.new.self c.turn.new.plans byte under has turn.permitted
    (λ cut front. turn.advances byte cut front refl)) [
      | inl goes ↦
          let taken = c.in_ok-take.ensures.taking.goes_on s.command under.units under.tried
          under.front goes.0 under.terminal goes.1 in (
            card_falls card s.command l new under.units under.tried under.before under.front
                goes.0 byte under.terminal taken has (turn.falls byte refl) goes.1 goes.2.0,
            inl (passed card s l new (Card, byte) goes.0 under goes.1 taken
                c.in_ok-take.ensures.taking.limit goes.2 goes.3 c.seen.ensures),
          )
      | inr ends ↦
          let taken = c.in_ok-take.ensures.taking.ends s.command under.units under.tried under.front
          ends.0 under.terminal ends.1 in
          let gone = gone_more card s l new ends.0 byte under ends.1 ends.2 ends.3 ends.4 has
          c.seen.ensures in (
            end_falls s.command l new under.units under.tried under.before under.front ends.0
                under.terminal taken c.in_ok-take.ensures.taking.bounds has ends.5,
            continues card s new under.units under.tried ends.0 under.agreed ends.5
                (c.in_ok-take.ensures.taking.limit ∙ under.room) gone taken,
          )
    ]

pub returns-in_err-take : goal.returns-in_err-take
returns-in_err-take g c = λ s began.
    let card = g.C.TpduCard in
    let hearing = g.W.Watch.hearing in
    let l = line c.args.exchange.now c.args.end.now c.args.plans.now (hearing c.args.watch.now) in
    let new = line c.take.new.self c.turn.new.self c.turn.new.plans (hearing c.seen.new.self) in
    let byte = c.in-Sends.byte in
    let under = still_going card s l began c.requires.listens in
    let turn = c.in-Sends.ensures in
    let has = has_plan card under.before under.front l c.turn.new.plans
    (silent_turn l.end.stage byte turn.whose) under.stands turn.plan (turn.cut byte refl) in
    let p = err_from_is_err_and c.from_residual.result c.from_residual.ensures.1 in
    rw (p.1, p.2) (elim (turned card s l c.turn.new.self c.turn.new.plans byte under has
    turn.permitted (λ cut front. turn.advances byte cut front refl)) [
      | inl goes ↦
          let long = c.in_err-take.ensures.taking.goes_on s.command under.units under.tried
          under.front goes.0 under.terminal goes.1 in
          inr (
            long,
            has_overflown card s l new goes.0 byte c.in_err-take.field-0.0 under goes.1 goes.2
                goes.3 long c.in_err-take.ensures.taking.fault c.seen.ensures,
          )
      | inr ends ↦
          let stall = c.in_err-take.ensures.taking.ends s.command under.units under.tried
          under.front ends.0 under.terminal ends.1 in
          inl (
            stall.0,
            has_stalled card s new under.units under.tried ends.0
                (gone_more card s l new ends.0 byte under ends.1 ends.2 ends.3 ends.4 has
                c.seen.ensures) stall.1,
          )
    ])
