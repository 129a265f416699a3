use Rattle.std.proofs.Common.{ℕ, List, [], sym, subst, ◌∙◌}
use Rattle.exchange_core.specs.ExchangeHistory.{ComesTo}
use Rattle.exchange_core.specs.OwnedExchange.{over_data}
use Rattle.exchange_core.proofs.exchange.owned.OwnedExchange.in_room.Goals as goal

pub returns-clause-led : goal.returns-clause-led
returns-clause-led c =
    let same = c.in_ok-content.ensures.items ∙ c.data.ensures.value in
    let P : List ℕ → Type 0 =
    λ bs. ComesTo c.args.command [] (over_data c.in_ok-exchange.exchange bs) in
    subst P (sym same) c.in_ok-exchange.ensures.led
