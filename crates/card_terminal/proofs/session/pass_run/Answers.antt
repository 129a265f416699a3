use Rattle.std.proofs.Common.{List, ℕ, take, arith, sym, subst}
use Rattle.t0_core.specs.CardSending.{AreDue}
use Rattle.card_terminal.specs.Line.{line}
use Rattle.card_terminal.proofs.SessionLemmas.{run_passed}
use Rattle.card_terminal.proofs.session.pass_run.Goals as goal

pub returns-in_default : goal.returns-in_default
returns-in_default g c = λ cursor s on. (omega arith, on)

pub returns : goal.returns
returns g c = λ cursor s on.
    let card = g.C.TpduCard in
    let hearing = g.W.Watch.hearing in
    let all : List ℕ = c.bytes-bytes.result.now in
    let count = c.take_data-count.result in
    let due = subst (λ bs. AreDue card c.args.end.now bs) (sym c.bytes-bytes.ensures)
    c.in-Some.ensures in
    run_passed card s (take count all)
    (line c.args.exchange.now c.args.end.now cursor (hearing c.args.watch.now))
    c.take_data-count.new.self c.skip_data.new.self (hearing c.hear.new.watch) on
    c.take_data-count.ensures.taken
    (c.skip_data.ensures.some all due c.take_data-count.ensures.fits) c.hear.ensures
