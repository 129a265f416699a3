use Rattle.exchange_core.specs.UnitLaws.{few_tpdus}
use Rattle.exchange_core.proofs.laws.an_exchange_has_few_tpdus.Goals as goal

pub returns : goal.returns
returns c = few_tpdus
