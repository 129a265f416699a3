use Rattle.std.proofs.Common.{◌+◌, ap, sym, ◌∙◌, arith}
use Rattle.t0_core.specs.HostView.{direction_of, content_of}
use Rattle.t0_core.proofs.DataTakingLemmas.{one_in, still_moving, none_moving}
use Rattle.t0_core.proofs.host_end.take_data_at.Goals as goal

pub returns-then-place-end-clause-taken : goal.returns-then-place-end-clause-taken
returns-then-place-end-clause-taken g c = λ _.
    let request = c.args.request.now in
    one_in request.header request.p3 (direction_of request.transfer) (content_of request.transfer)
    c.args.stage.now _ c.in-Moving.moved c.in-Moving.until c.args.byte
    c.args.gather.now c.push.new.self (ap direction_of c.in-Asking.is) c.in-Moving.is
    c.requires (sym c.is_full.ensures.full ∙ c.if-is_full.false) c.is_full.ensures.fits
    c.push.ensures
    (sym (still_moving (c.in-Moving.moved + 1) c.in-Moving.until
    (omega (arith, c.if-place-end.true))))

pub returns-else-place-end-clause-taken : goal.returns-else-place-end-clause-taken
returns-else-place-end-clause-taken g c = λ _.
    let request = c.args.request.now in
    one_in request.header request.p3 (direction_of request.transfer) (content_of request.transfer)
    c.args.stage.now _ c.in-Moving.moved c.in-Moving.until c.args.byte
    c.args.gather.now c.push.new.self (ap direction_of c.in-Asking.is) c.in-Moving.is
    c.requires (sym c.is_full.ensures.full ∙ c.if-is_full.false) c.is_full.ensures.fits
    c.push.ensures
    (sym (none_moving (c.in-Moving.moved + 1) c.in-Moving.until
    (omega (arith, c.if-place-end.false))))
