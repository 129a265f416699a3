use Rattle.std.proofs.Common.{List, ℕ, ap, ◌∙◌}
use Rattle.std.specs.List.{slice_range}
use Rattle.apdu_terminal.specs.ApduSide.{due_of, of_mark}
use Rattle.apdu_terminal.specs.ApduOperations.{ApduOperationOf}
use Rattle.apdu_terminal.proofs.terminal.operation.ApduOperation.apdu.Goals as goal

pub returns : goal.returns
returns g c =
    let i = c.self.inside in
    c.apdu.ensures i.gather
    ∙ ap (λ (bs : List ℕ). due_of (of_mark (slice_range bs i.from i.until) i.gather i.mark))
    c.deref.ensures.value ∙ ap (λ (o : ApduOperationOf). due_of o.exchange) c.self.view_is
