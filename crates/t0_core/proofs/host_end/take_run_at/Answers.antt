use Rattle.std.proofs.Common.{ap, inr}
use Rattle.t0_core.specs.HostView.{direction_of, content_of}
use Rattle.t0_core.specs.declared.host_end.HostStage.TheVariants.{Moving}
use Rattle.t0_core.proofs.DataTakingLemmas.{run_in, is_below, after_run, no_data}
use Rattle.t0_core.proofs.host_end.take_run_at.Goals as goal

pub returns-in-Asking-clause-taken : goal.returns-in-Asking-clause-taken
returns-in-Asking-clause-taken g c =
    let request = c.args.request.now in
    let run = c.extend_up_to-count in
    run_in request.header request.p3 (direction_of request.transfer) (content_of request.transfer)
    c.args.stage.now c.stage_moving.result c.in-Moving.moved c.in-Moving.until run.result
    c.args.bytes.now c.args.gather.now run.new.self (ap direction_of c.in-Asking.is) c.in-Moving.is
    c.requires run.ensures.within run.ensures.fits run.ensures.room run.ensures.gathered
    c.stage_moving.ensures.value

pub returns-in-Asking-clause-all : goal.returns-in-Asking-clause-all
returns-in-Asking-clause-all g c =
    let request = c.args.request.now in
    let run = c.extend_up_to-count in
    after_run request.header request.p3 (direction_of request.transfer)
    (content_of request.transfer) c.stage_moving.result c.in-Moving.moved c.in-Moving.until
    run.result c.args.bytes.now c.args.gather.now run.new.self
    (is_below request.header request.p3 (direction_of request.transfer)
    (content_of request.transfer) c.args.stage.now _ _ c.in-Moving.is c.requires)
    c.stage_moving.ensures.value
    run.ensures.gathered run.ensures.fits run.ensures.all

pub returns-in-Sending-clause-all : goal.returns-in-Sending-clause-all
returns-in-Sending-clause-all g c =
    let request = c.args.request.now in
    inr (no_data request.header request.p3 (direction_of request.transfer)
    (content_of request.transfer) (Moving c.in-Moving.moved c.in-Moving.until) c.args.gather.now
    (λ m u at. ap direction_of c.in-Sending.is))

pub returns-in_default-clause-all : goal.returns-in_default-clause-all
returns-in_default-clause-all g c =
    let request = c.args.request.now in
    inr (no_data request.header request.p3 (direction_of request.transfer)
    (content_of request.transfer) c.args.stage.now c.args.gather.now
    (λ m u at. absurd (c.in_default.not-Moving m u at)))
