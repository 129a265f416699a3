use Rattle.std.proofs.Common.{ap}
use Rattle.t0_core.specs.HostView.{direction_of, content_of}
use Rattle.t0_core.proofs.DataRunLemmas.{run_in}
use Rattle.t0_core.proofs.host_end.data_bytes_at.Goals as goal

pub returns-in-Sending-clause-handed : goal.returns-in-Sending-clause-handed
returns-in-Sending-clause-handed c =
    let request = c.args.request.now in
    let run = c.hand_run-count in
    run_in request.header request.p3 (direction_of request.transfer) (content_of request.transfer)
    c.in-Sending.content.now c.args.stage.now c.stage_moving.result c.in-Moving.moved
    c.in-Moving.until run.result c.args.bytes.now run.new.bytes (ap direction_of c.in-Sending.is)
    (ap content_of c.in-Sending.is) c.in-Moving.is c.requires run.ensures.within
    run.ensures.fits run.ensures.copied c.stage_moving.ensures.value
