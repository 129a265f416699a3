use Rattle.std.proofs.Common.{ap}
use Rattle.exchange_core.specs.OwnedExchange.{ExchangeMarkOf, over_data}
use Rattle.exchange_core.proofs.OwnedLemmas.{same_parts}
use Rattle.exchange_core.specs.SentLaws.{tells_sent_as}
use Rattle.exchange_core.proofs.exchange.exchange_mark.ExchangeMark.data_sent.Goals as goal

pub returns : goal.returns
returns g c =
    let content = c.args.content.now in
    let i = c.self.inside in
    tells_sent_as _ _ c.data_sent.result c.and.result
    (same_parts i.end i.gather i.attempt i.wanted i.stalled content _ _ c.at.ensures
    (ap (λ (m : ExchangeMarkOf). over_data m content) c.self.view_is)) c.and.ensures
    c.data_sent.ensures.value
