-- `into_loose` names the type behind the pointer again.
use Rattle.card_c.proofs.HeldWalks.{shows}
use Rattle.card_c.proofs.HeldTerminalKind.{kind}
use Rattle.card_c.specs.contracts.held_terminal.HeldTerminal.into_loose.Key.{name as #self}
use Rattle.card_c.proofs.held_terminal.HeldTerminal.into_loose.Statement.{statement}
use Rattle.card_c.proofs.held_terminal.HeldTerminal.into_loose.Code as code

pub into_loose_spec : {M : Type 1} → statement M
into_loose_spec 𝓤 𝓛 𝓜 𝓡 wired =
    shows 𝓤 𝓛 𝓜 𝓡 kind #self (code.unfolded 𝓤 𝓛.H 𝓜 𝓡 wired)
