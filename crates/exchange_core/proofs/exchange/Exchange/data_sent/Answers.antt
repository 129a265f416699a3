use Rattle.exchange_core.specs.SentLaws.{tells_sent_as}
use Rattle.exchange_core.proofs.exchange.Exchange.data_sent.Goals as goal

pub returns : goal.returns
returns g c = tells_sent_as _ _ c.data_sent.result c.and.result c.self.view_is c.and.ensures
    c.data_sent.ensures.value
