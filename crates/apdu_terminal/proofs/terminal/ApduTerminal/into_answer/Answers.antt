use Rattle.std.proofs.Common.{◌∙◌, sym, ap}
use Rattle.apdu_terminal.proofs.OperationLemmas.{answers, answer_as, settled_at}
use Rattle.apdu_terminal.proofs.terminal.ApduTerminal.into_answer.Goals as goal

pub returns-in-Some : goal.returns-in-Some
returns-in-Some g c =
    let settled = settled_at c.self.inside.operation c.in-Some.operation c.self.invariant.settled
    c.in-Some.is in
    answer_as _ _ _ (sym c.in-Some.is ∙ ap (λ x. x.operation) c.self.view_is)
    (answers c.in-Some.operation _ settled
    (sym (rw c.in-Some.operation-is at c.into_answer.ensures)))
