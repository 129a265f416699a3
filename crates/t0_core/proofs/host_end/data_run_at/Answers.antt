use Rattle.std.proofs.Common.{ap}
use Rattle.t0_core.specs.HostView.{direction_of, content_of}
use Rattle.t0_core.proofs.DataRunLemmas.{rest_sent_in}
use Rattle.t0_core.proofs.host_end.data_run_at.Goals as goal

pub returns-in-Sending-clause-sent : goal.returns-in-Sending-clause-sent
returns-in-Sending-clause-sent c =
    let request = c.args.request.now in
    rest_sent_in request.header request.p3 (direction_of request.transfer)
    (content_of request.transfer) c.in-Sending.content.now c.args.stage.now c.stage_moving.result
    c.in-Moving.moved c.in-Moving.until (ap direction_of c.in-Sending.is)
    (ap content_of c.in-Sending.is) c.in-Moving.is c.requires c.stage_moving.ensures.value
