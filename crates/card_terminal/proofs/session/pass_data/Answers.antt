use Rattle.card_terminal.specs.Line.{line}
use Rattle.card_terminal.proofs.SessionLemmas.{run_sent}
use Rattle.card_terminal.proofs.session.pass_data.Goals as goal

pub returns : goal.returns
returns g c = λ cursor s on.
    let hearing = g.W.Watch.hearing in
    let taken = c.take_bytes in
    run_sent g.C.TpduCard s c.next_data_run-run.result.now taken.result
    (line c.args.exchange.now c.args.end.now cursor (hearing c.args.watch.now))
    c.next_data_run-run.new.self taken.new.self (hearing c.hear.new.watch) on
    c.next_data_run-run.ensures taken.ensures.taken taken.ensures.all taken.ensures.due
    c.hear.ensures
