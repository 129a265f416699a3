use Rattle.std.proofs.Common.{◌≡◌, ◌≤◌, ◌+◌, length, length-drop, take, drop, List, ℕ, arith, subst}
use Rattle.std.proofs.lemmas.List.{take_rest}
use Rattle.t0_core.specs.Buffers.{Steps, IsDataTaken, Taker}
use Rattle.exchange_core.specs.OwnedExchange.{of_parts}
use Rattle.exchange_core.proofs.TakingLemmas.{HasTaken, none_yet, run_taken, taken_on, taken_up_to, taken_all}
use Rattle.exchange_core.proofs.exchange.taking.all_taken_by.Goals as goal

pub rest-init : goal.rest-init
rest-init g c =
    let run = c.take_data_bytes-at in
    let none : 0 + run.result ≡ run.result = omega arith in
    let old = of_parts c.args.end.now c.args.gather.now c.args.attempt.now c.args.wanted
    c.args.stalled.now in
    let new = of_parts run.new.self run.new.gather c.args.attempt.now c.args.wanted
    c.args.stalled.now in (
      subst (λ n. HasTaken old new c.args.bytes.now n) none
          (run_taken c.args.attempt.now c.args.wanted c.args.stalled.now old
          (record { host = c.args.end.now; room = c.args.gather.now })
          (record { host = run.new.self; room = run.new.gather }) c.args.bytes.now 0 run.result
          (none_yet old c.args.bytes.now c.requires) run.ensures.taken),
      run.ensures.fits,
    )

pub rest-preserved : goal.rest-preserved
rest-preserved g c =
    let run = c.take_data_bytes-at-in-rest in
    let bytes : List ℕ = c.args.bytes.now in
    let at : ℕ = c.rest.at + 1 in
    let one = taken_on _ _ _ bytes c.rest.at c.taken_by.result c.rest-test.true
    c.rest.invariant.0 c.taken_by.ensures.taking c.in_default.is c.taken_by.ensures.kept
    c.taken_by.ensures.data in
    let now : Taker = record { host = c.taken_by.new.end; room = c.taken_by.new.gather } in
    let next : Taker = record { host = run.new.self; room = run.new.gather } in
    let steps : Steps IsDataTaken now (take run.result (drop at bytes)) next =
    subst (λ bs. Steps IsDataTaken now (take run.result bs) next) (take_rest bytes at)
    run.ensures.taken in
    let fits : run.result ≤ length (drop at bytes) =
    subst (λ (bs : List ℕ). run.result ≤ length bs) (take_rest bytes at) run.ensures.fits in (
      run_taken c.taken_by.new.attempt c.args.wanted c.taken_by.new.stalled _ now next bytes at
          run.result one steps,
      omega (arith, fits, length-drop at bytes, c.rest-test.true),
    )

pub returns-in-Err-clause-taking : goal.returns-in-Err-clause-taking
returns-in-Err-clause-taking g c =
    taken_up_to _ _ _ c.args.bytes.now c.rest.at c.taken_by.result c.in-Err.fault
    c.rest-test.true c.rest.invariant.0 c.taken_by.ensures.taking c.in-Err.is

pub returns-in-Err-clause-data : goal.returns-in-Err-clause-data
returns-in-Err-clause-data g c = λ content only.
    c.taken_by.ensures.data content (c.rest.invariant.0.only content only)

pub returns-clause-taking : goal.returns-clause-taking
returns-clause-taking g c = taken_all _ _ c.args.bytes.now c.rest.at c.rest-test.false
    c.rest.invariant.1 c.rest.invariant.0
