-- `of` hides the type behind the pointer.
use Rattle.card_c.proofs.HeldWalks.{hides}
use Rattle.card_c.proofs.HeldExchangeKind.{kind}
use Rattle.card_c.specs.contracts.held_exchange.HeldExchange.of.Key.{name as #self}
use Rattle.card_c.proofs.held_exchange.HeldExchange.of.Statement.{statement}
use Rattle.card_c.proofs.held_exchange.HeldExchange.of.Code as code

pub of_spec : {M : Type 1} → statement M
of_spec 𝓤 𝓛 𝓜 𝓡 wired =
    hides 𝓤 𝓛 𝓜 𝓡 kind #self (code.unfolded 𝓤 𝓛.H 𝓜 𝓡 wired)
