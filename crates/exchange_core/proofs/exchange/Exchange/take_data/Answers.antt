use Rattle.std.proofs.Common.{sym, take}
use Rattle.exchange_core.proofs.TakingLemmas.{run_kept, run_steps}
use Rattle.exchange_core.proofs.exchange.Exchange.take_data.Goals as goal

pub returns-clause-taken : goal.returns-clause-taken
returns-clause-taken g c =
    let i = c.self.inside in
    let run = c.take_data_bytes in
    rw (sym c.self.view_is) (run_steps i.attempt i.wanted i.stalled
    (take run.result c.args.bytes.now) _ _ c.self.invariant run.ensures.taken)

pub invariant_of-self : goal.invariant_of-self
invariant_of-self g c =
    let i = c.self.inside in
    let run = c.take_data_bytes in
    run_kept i.attempt i.wanted i.stalled (take run.result c.args.bytes.now) _ _
    c.self.invariant run.ensures.taken
