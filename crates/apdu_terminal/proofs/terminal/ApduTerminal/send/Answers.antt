use Rattle.std.proofs.Common.{[], ◌∷◌, refl, sym, ◌∙◌}
use Rattle.apdu_terminal.proofs.OperationLemmas.{one_begins}
use Rattle.apdu_terminal.proofs.terminal.ApduTerminal.send.Goals as goal

pub returns-clause-begins : goal.returns-clause-begins
returns-clause-begins g c =
    let (o, is, begins) = c.in_ok-begin.ensures.begins in
    record {
      begun = (c.args.command ∷ [], refl, one_begins c.args.command _ _ _ o _ refl is begins);
      under_way = sym c.is_going.ensures.going ∙ c.if-is_going.false;
    }
