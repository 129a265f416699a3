use Rattle.std.proofs.Common.{sym}
use Rattle.exchange_core.proofs.HandingLemmas.{data_run_of, still_kept}
use Rattle.exchange_core.proofs.exchange.Exchange.next_data_run.Goals as goal

pub returns : goal.returns
returns g c =
    let i = c.self.inside in
    let run = c.next_data_run in
    rw (sym c.self.view_is) (data_run_of run.result.now _ _ _ i.attempt i.wanted i.stalled
    c.if-self.false c.self.invariant run.ensures.sent)

pub invariant_of-self : goal.invariant_of-self
invariant_of-self g c =
    let i = c.self.inside in
    still_kept _ _ i.stalled _ i.attempt i.wanted c.if-self.false c.self.invariant
