use Rattle.std.proofs.Common.{◌∙◌, sym}
use Rattle.card_terminal.proofs.TerminalStepLemmas.{answers_for, answer_as, settled_at, held}
use Rattle.card_terminal.proofs.terminal.Terminal.answer.Goals as goal

pub returns-in-Some : goal.returns-in-Some
returns-in-Some g c =
    let settled = settled_at c.self.inside.operation c.in-Some.operation c.self.invariant.0.settled
    c.in-Some.is in
    answer_as _ _ _ (sym c.in-Some.is ∙ held c.self.view_is)
    (answers_for c.in-Some.operation _ settled c.answer.ensures)
