use Rattle.std.proofs.Common.{sym}
use Rattle.t0_core.specs.HostView.{direction_of, content_of}
use Rattle.t0_core.proofs.HostLemmas.{seen_at, host_takes}
use Rattle.t0_core.proofs.HostTook.{host_took, brings, gathers}
use Rattle.t0_core.proofs.host_end.HostEnd.take.Goals as goal

pub returns-in-Ok-clause-goes_on : goal.returns-in-Ok-clause-goes_on
returns-in-Ok-clause-goes_on g c = λ front new stands goes.
    let request = c.self.inside.request in
    rw (c.in-Ok.ensures.next.0)
    ((host_takes request.header request.p3 (direction_of request.transfer)
    (content_of request.transfer) c.self.inside.stage c.args.gather.now c.args.byte front new
    c.self.invariant (seen_at _ _ front c.self.view_is stands) goes).stands)

pub returns-in-Err-clause-goes_on : goal.returns-in-Err-clause-goes_on
returns-in-Err-clause-goes_on g c = λ front new stands goes.
    let request = c.self.inside.request in
    (host_takes request.header request.p3 (direction_of request.transfer)
    (content_of request.transfer) c.self.inside.stage c.args.gather.now c.args.byte front new
    c.self.invariant (seen_at _ _ front c.self.view_is stands) goes).fault c.in-Err.fault
    (sym c.in-Err.ensures.fault)

pub returns-in-Ok-clause-came : goal.returns-in-Ok-clause-came
returns-in-Ok-clause-came g c = λ front stands.
    let request = c.self.inside.request in
    rw (c.in-Ok.ensures.next.0)
    (host_took request.header request.p3 (direction_of request.transfer)
    (content_of request.transfer) c.self.inside.stage c.args.gather.now c.args.byte front
    c.ranges.byte.fits c.self.invariant (seen_at _ _ front c.self.view_is stands)
    (sym c.in-Ok.ensures.fault))

pub returns-in-Ok-clause-gathers : goal.returns-in-Ok-clause-gathers
returns-in-Ok-clause-gathers g c = λ front new before stands goes had.
    let request = c.self.inside.request in
    gathers before c.args.gather.now c.take_at.new.gather c.self.inside.stage c.args.byte _ _
    c.in-Ok.ensures.gathered had
    (brings request.header request.p3 (direction_of request.transfer) (content_of request.transfer)
    c.self.inside.stage c.args.byte front new (seen_at _ _ front c.self.view_is stands) goes)
