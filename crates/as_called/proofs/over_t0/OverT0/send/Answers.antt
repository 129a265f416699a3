use Rattle.std.proofs.Common.{sym}
use Rattle.as_called.proofs.AtT0.{as_if_at_t0}
use Rattle.as_called.proofs.over_t0.OverT0.send.Goals as goal

pub returns-clause-as_if_called : goal.returns-clause-as_if_called
returns-clause-as_if_called g c =
    let a = g.A.Application in
    let (units, gathers, gone) = c.in_ok-answer.ensures.answers in
    rw (sym c.self.view_is)
    (as_if_at_t0 a.takes a.Does c.an_exchange_gathers_what_is_asked_for.ensures _ _ c.args.command
    units _ _ _ _ _ _ c.requires.agreed c.requires.no_fetch c.self.invariant
    c.header-valid.ensures.command gathers gone).0

pub invariant_of-self-2 : goal.invariant_of-self-2
invariant_of-self-2 g c =
    let a = g.A.Application in
    let (units, gathers, gone) = c.in_ok-answer.ensures.answers in
    (as_if_at_t0 a.takes a.Does c.an_exchange_gathers_what_is_asked_for.ensures _ _ c.args.command
    units _ _ _ _ _ _ c.requires.agreed c.requires.no_fetch c.self.invariant
    c.header-valid.ensures.command gathers gone).1

pub returns-clause-passed : goal.returns-clause-passed
returns-clause-passed g c = rw (sym c.self.view_is) c.in_ok-answer.ensures.answers
