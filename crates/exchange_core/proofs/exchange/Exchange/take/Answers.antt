use Rattle.std.proofs.Common.{sym}
use Rattle.exchange_core.proofs.exchange.Exchange.take.Goals as goal

pub returns-clause-taking : goal.returns-clause-taking
returns-clause-taking g c = rw (sym c.self.view_is) c.taken_by.ensures.taking
