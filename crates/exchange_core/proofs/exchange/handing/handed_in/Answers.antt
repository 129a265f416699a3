use Rattle.std.proofs.Common.{◌≡◌, ◌<◌, ◌≤◌, length, arith}
use Rattle.t0_core.specs.HostMark.{with_data}
use Rattle.exchange_core.proofs.HandingLemmas.{run_handed, handed_on, handed_up_to, over_still, kept_still, handed_all}
use Rattle.exchange_core.proofs.exchange.handing.handed_in.Goals as goal

pub loop-at-init : goal.loop-at-init
loop-at-init c = (
  run_handed (with_data c.args.end.now c.args.content.now)
      (with_data c.next_data_bytes-count.new.self c.args.content.now) c.args.stalled
      c.args.bytes.now c.next_data_bytes-count.new.bytes c.next_data_bytes-count.result
      c.if-stalled.false c.next_data_bytes-count.ensures.handed,
  c.next_data_bytes-count.ensures.range,
)

pub next-requires : goal.next-requires
next-requires c = c.loop-at.invariant.1

pub loop-at-preserved : goal.loop-at-preserved
loop-at-preserved c =
    let begun = with_data c.args.end.now c.args.content.now in
    let end = with_data c.loop-at.end c.args.content.now in
    let next = with_data c.next.new.self c.args.content.now in
    let below : c.loop-at.at < length c.loop-at.bytes =
    omega (arith, c.loop-at-test.true, c.loop-at.auto.bytes) in
    let same : length c.loop-at.bytes ≡ length c.args.bytes.now = search in (
      handed_on begun end next c.args.stalled c.args.bytes.now
          c.loop-at.bytes c.loop-at.at c.next.result c.if-stalled.false below same
          c.loop-at.invariant.0 c.next.ensures.turn c.next.ensures.after c.next.ensures.range.0
          c.next.ensures.stays c.next.ensures.goes_on c.in-Sends.byte c.in-Sends.is,
      c.next.ensures.range,
    )

pub returns-in_default : goal.returns-in_default
returns-in_default c =
    let begun = with_data c.args.end.now c.args.content.now in
    let end = with_data c.loop-at.end c.args.content.now in
    let next = with_data c.next.new.self c.args.content.now in
    let below : c.loop-at.at < length c.loop-at.bytes =
    omega (arith, c.loop-at-test.true, c.loop-at.auto.bytes) in
    let same : length c.loop-at.bytes ≡ length c.args.bytes.now = search in
    record {
      handed = handed_up_to begun end next c.args.stalled
          c.args.bytes.now c.loop-at.bytes c.loop-at.at c.next.result c.if-stalled.false below
          same c.loop-at.invariant.0 c.next.ensures.turn c.next.ensures.after
          c.next.ensures.range.0 c.next.ensures.stays c.next.ensures.goes_on
          c.in_default.not-Sends;
      kept = kept_still begun end next c.args.stalled
          c.args.bytes.now c.loop-at.bytes c.loop-at.at c.next.result c.if-stalled.false below
          same c.loop-at.invariant.0 c.next.ensures.turn c.next.ensures.after
          c.next.ensures.range.0 c.next.ensures.stays c.next.ensures.goes_on;
      over = over_still begun end next c.args.stalled
          c.args.bytes.now c.loop-at.bytes c.loop-at.at c.next.result c.if-stalled.false below
          same c.loop-at.invariant.0 c.next.ensures.turn c.next.ensures.after
          c.next.ensures.range.0 c.next.ensures.stays c.next.ensures.goes_on c.in_default.not-Sends;
      range = c.next.ensures.range;
    }

pub returns-clause-handed : goal.returns-clause-handed
returns-clause-handed c =
    let begun = with_data c.args.end.now c.args.content.now in
    let end = with_data c.loop-at.end c.args.content.now in
    let beyond : length c.loop-at.bytes ≤ c.loop-at.at =
    omega (arith, c.loop-at-test.false, c.loop-at.auto.bytes) in
    let run = c.next_data_bytes-count in
    let fits : run.result ≤ length run.new.bytes =
    omega (arith, run.ensures.handed.fits, run.auto.bytes) in
    let within : c.loop-at.at ≤ length c.loop-at.bytes =
    omega (arith, c.loop-at.auto.at-end fits, c.loop-at.auto.bytes) in
    let same : length c.loop-at.bytes ≡ length c.args.bytes.now = search in
    handed_all begun end c.args.stalled c.args.bytes.now c.loop-at.bytes
    c.loop-at.at beyond within same c.loop-at.invariant.0
