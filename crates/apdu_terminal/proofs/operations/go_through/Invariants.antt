use Rattle.std.proofs.Common.{◌≡◌, true, List, []}
use Rattle.std.specs.List.{AllByRecursion}
use Rattle.apdu_core.specs.CommandBytes.{Command}
use Rattle.t0_core.specs.CardTpdu.{rests}
use Rattle.object_card.specs.Agreed.{IsAgreed}
use Rattle.object_card.specs.State.{IsCardState}
use Rattle.apdu_terminal.specs.ApduOperations.{HasResponded, KeepsLimit, LeadsTo, may_follow}
use Rattle.apdu_terminal.proofs.operations.go_through.Given as goal

-- The card was sound, and has responded to the commands that led to the operation.
abbrev pub invariant-talk : goal.invariant-talk
invariant-talk g l =
    let card = g.C.TpduCard in
    record {
      rests : rests l.end.stage ≡ true;
      limit : KeepsLimit l.fn.terminal l.terminal;
      room : l.room.limit ≡ 256;
      gather : l.gather.limit ≡ 256;
      sound : IsCardState (g.C.DataCard.state l.fn.end.card);
      had : (commands : List Command)
          → AllByRecursion (λ c. IsAgreed card.MayReceive card.MaySend c) commands
          → LeadsTo commands [] l.fn.terminal.operation
          → HasResponded card.Does commands (card.standing l.fn.end.card)
          (card.standing l.end.card) l.terminal.operation;
    }

abbrev pub decreases-talk : goal.decreases-talk
decreases-talk g l = may_follow l.terminal.operation
