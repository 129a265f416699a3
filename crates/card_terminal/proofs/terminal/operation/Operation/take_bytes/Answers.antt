use Rattle.std.proofs.Common.{inl, inr}
use Rattle.card_terminal.proofs.TerminalStepLemmas.{settles}
use Rattle.card_terminal.proofs.TerminalBufferLemmas.{takes_and_stays, takes_to_next}
use Rattle.card_terminal.proofs.terminal.operation.Operation.take_bytes.Goals as goal

pub returns-then-begins : goal.returns-then-begins
returns-then-begins g c =
    let taken = c.take_and_go_on-begins.ensures.taking in
    record {
      taking = λ settled. takes_to_next _ _ c.args.bytes.now _ _ _ taken.0 settled taken.1
          (taken.2 c.if-begins.true) c.out_of_turn.ensures;
      settled = settles _ _ (inr (taken.2 c.if-begins.true));
      limit = c.take_and_go_on-begins.ensures.limit;
    }

pub returns-else-begins : goal.returns-else-begins
returns-else-begins g c =
    let taken = c.take_and_go_on-begins.ensures.taking in
    record {
      taking = λ settled. takes_and_stays _ _ c.args.bytes.now _ _ taken.0 settled taken.1
          (taken.3 c.if-begins.false);
      settled = settles _ _ (inl (taken.3 c.if-begins.false));
      limit = c.take_and_go_on-begins.ensures.limit;
    }
