use Rattle.exchange_core.proofs.WholeTpduLemmas.{due_where_fresh}
use Rattle.exchange_core.proofs.ExchangeLemmas.{seen_under_way}
use Rattle.exchange_core.proofs.exchange.Exchange.tpdu.Goals as goal

pub returns-clause-begins : goal.returns-clause-begins
returns-clause-begins g c = λ command units first front seen.
    due_where_fresh c.whole.result command _ units first front c.whole.ensures
    (seen_under_way command _ _ units first front c.self.view_is seen)
