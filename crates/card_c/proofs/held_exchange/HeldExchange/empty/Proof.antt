-- `empty` makes a null pointer with the allocator, and owns nothing.
use Rattle.card_c.proofs.HeldWalks.{empties}
use Rattle.card_c.proofs.HeldExchangeKind.{kind}
use Rattle.card_c.specs.contracts.held_exchange.HeldExchange.empty.Key.{name as #self}
use Rattle.card_c.proofs.held_exchange.HeldExchange.empty.Statement.{statement}
use Rattle.card_c.proofs.held_exchange.HeldExchange.empty.Code as code

pub empty_spec : {M : Type 1} → statement M
empty_spec 𝓤 𝓛 𝓜 𝓡 wired =
    empties 𝓤 𝓛 𝓜 𝓡 kind #self (code.unfolded 𝓤 𝓛.H 𝓜 𝓡 wired)
