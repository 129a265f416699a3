use Rattle.std.proofs.Common.{◌≡◌, is_some, sym, ap, ◌∙◌}
use Rattle.t0_core.specs.declared.line_fault.LineFault.{LineFault}
use Rattle.card_terminal.specs.declared.session_fault.SessionFault.TheVariants.{OutOfMemory, Line}
use Rattle.card_terminal.specs.Conversing.{point}
use Rattle.card_terminal.specs.Line.{line, begun}
use Rattle.exchange_core.specs.ComesToLaws.{over_turn}
use Rattle.card_terminal.proofs.SessionLemmas.{some_is, same_err, answered, caused}
use Rattle.std.proofs.lemmas.Result.{err_from_is_err_and}
use Rattle.card_terminal.proofs.session.Session.transmit.Goals as goal

pub converse-requires-clause-begun : goal.converse-requires-clause-begun
converse-requires-clause-begun g c =
    (c.args.command, (c.requires, c.in_ok-exchange.ensures.begins, c.in_ok-exchange.ensures.limit))

no_line : (fault : LineFault) → OutOfMemory ≡ Line fault → ⊥
no_line fault e = absurd (cc)

pub returns-in_err-exchange-clause-line : goal.returns-in_err-exchange-clause-line
returns-in_err-exchange-clause-line g c = λ fault is.
    let p = err_from_is_err_and c.from_residual.result c.from_residual.ensures.1 in
    let e = sym p.1 ∙ is in
    absurd (no_line fault (sym p.2 ∙ same_err p.0 (Line fault) e))

pub unwrap-requires : goal.unwrap-requires
unwrap-requires g c =
    let over = c.in-Ok.ensures c.args.command
    (c.requires, c.in_ok-exchange.ensures.begins, c.in_ok-exchange.ensures.limit) in
    ap is_some (c.into_answer.ensures.done over.status
    (over_turn c.args.command _ over.units over.status over.terminal))

pub invariant_of-self : goal.invariant_of-self
invariant_of-self g c =
    let over = c.in-Ok.ensures c.args.command
    (c.requires, c.in_ok-exchange.ensures.begins, c.in_ok-exchange.ensures.limit) in
    over.at_rest

pub returns-in-Ok-clause-answers : goal.returns-in-Ok-clause-answers
returns-in-Ok-clause-answers g c =
    let card = g.C.TpduCard in
    let now = g.W.Watch.hearing c.args.watch.now in
    let over = c.in-Ok.ensures c.args.command
    (c.requires, c.in_ok-exchange.ensures.begins, c.in_ok-exchange.ensures.limit) in
    answered card (begun card c.args.command (line c.in_ok-exchange.exchange c.self.inside.end
    c.args.plans.now now)) (line c.converse.new.exchange c.converse.new.end
    c.converse.new.plans (g.W.Watch.hearing c.converse.new.watch)) _ c.unwrap.result over
    (ap (λ x. point (card.standing x) c.args.plans.now.rest now) c.self.view_is)
    (some_is c.into_answer.result c.unwrap.result _ c.unwrap.ensures
    (c.into_answer.ensures.done over.status
    (over_turn c.args.command _ over.units over.status over.terminal)))

line_is : (a b : LineFault) → Line a ≡ Line b → a ≡ b
line_is a b e = cc

pub returns-in-Err-clause-line : goal.returns-in-Err-clause-line
returns-in-Err-clause-line g c = λ fault is.
    let card = g.C.TpduCard in
    let now = g.W.Watch.hearing c.args.watch.now in
    let why = c.in-Err.ensures c.args.command
    (c.requires, c.in_ok-exchange.ensures.begins, c.in_ok-exchange.ensures.limit) in (
      card.standing c.converse.new.end.card,
      caused card.Does _ _ _ c.args.command c.in-Err.fault fault why
          (ap (λ x. point (card.standing x) c.args.plans.now.rest now) c.self.view_is)
          (line_is c.in-Err.fault fault (same_err _ _ is)),
      c.reset.ensures.card,
    )
