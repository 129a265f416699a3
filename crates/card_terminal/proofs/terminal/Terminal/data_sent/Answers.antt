use Rattle.card_terminal.proofs.TerminalStepLemmas.{held}
use Rattle.card_terminal.proofs.SentLemmas.{tells_terminal_sent}
use Rattle.card_terminal.proofs.terminal.Terminal.data_sent.Goals as goal

pub returns-in-Some : goal.returns-in-Some
returns-in-Some g c = tells_terminal_sent _ _ c.in-Some.operation _ (held c.self.view_is)
    c.in-Some.is c.data_sent.ensures
