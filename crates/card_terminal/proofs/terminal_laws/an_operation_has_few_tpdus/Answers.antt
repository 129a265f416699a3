use Rattle.card_terminal.proofs.TerminalCutting.{few_tpdus_in_all}
use Rattle.card_terminal.proofs.terminal_laws.an_operation_has_few_tpdus.Goals as goal

pub returns : goal.returns
returns c = few_tpdus_in_all
