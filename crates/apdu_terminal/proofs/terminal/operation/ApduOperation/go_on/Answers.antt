use Rattle.std.proofs.Common.{◌∙◌, ap, length}
use Rattle.apdu_terminal.specs.ApduOperations.{ApduOperationOf}
use Rattle.apdu_terminal.proofs.OperationLemmas.{some_rest}
use Rattle.apdu_terminal.proofs.terminal.operation.ApduOperation.go_on.Goals as goal

pub begin_next-requires-clause-more : goal.begin_next-requires-clause-more
begin_next-requires-clause-more g c = λ none.
    some_rest c.self.inside.content.items c.self.inside.until _ c.self.invariant.within
    (ap length c.as_slice.ensures.value) c.if-is_last.false
    (ap (λ (o : ApduOperationOf). o.rest) c.self.view_is ∙ none)
