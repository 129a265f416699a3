use Rattle.t0_core.specs.HostView.{direction_of, content_of}
use Rattle.t0_core.proofs.HostLemmas.{seen_at, host_sends}
use Rattle.t0_core.proofs.host_end.HostEnd.next_data.Goals as goal

pub returns-clause-goes_on : goal.returns-clause-goes_on
returns-clause-goes_on c = λ front byte stands is.
    let request = c.self.inside.request in
    let sends = c.data_at.ensures.sends byte is in
    rw sends.1
    (host_sends request.header request.p3 (direction_of request.transfer)
    (content_of request.transfer) c.self.inside.stage front byte c.self.invariant
    (seen_at _ _ front c.self.view_is stands) sends.0)
