-- What an exchange says of the data that the terminal has sent.
use Rattle.std.proofs.Common.{◌≡◌, Some, Option, ap, sym, ◌∙◌}
use Rattle.t0_core.specs.declared.host_end.HostTurn.{HostTurn}
use Rattle.t0_core.specs.declared.host_end.HostTurn.TheVariants.{Done}
use Rattle.t0_core.specs.declared.data_sent.DataSent.{DataSent}
use Rattle.t0_core.specs.DataSent.{both, Tells}
use Rattle.t0_core.specs.DataSentLaws.{tells_both, tells_itself, known_both, sent_in_front, sent_after_sw1}
use Rattle.t0_core.specs.HostSide.{data_sent}
use Rattle.exchange_core.specs.ExchangeSide.{ExchangeOf, exchange_sent}
use Rattle.exchange_core.specs.SentData.{TellsSent}
use Rattle.card_terminal.specs.SentData.{TellsTerminalSent}
use Rattle.card_terminal.specs.TerminalSide.{OperationOf, operation_sent}
use Rattle.card_terminal.proofs.TerminalLemmas.{answer_led}
use Rattle.exchange_core.specs.SentLaws.{tells_sent_as, tells_sent}

pub tells_operation_sent : (o : OperationOf) (sent : DataSent) → sent ≡ operation_sent o
    → TellsTerminalSent (Some o) (Some sent)
tells_operation_sent o sent is = record {
  value = ap (λ s. Some s) is;
  known = λ known. rw is (known_both o.sent (exchange_sent o.exchange) known.0
      (known_both o.exchange.attempt.sent (data_sent o.exchange.host) known.1.0 known.1.1));
  over = λ commands came status l done.
      let (exchanges, are, come, told) = answer_led commands came o status l.1
      (same_turn _ (Done status) done) l.0 in (
        exchanges,
        record { status = status; content = o.exchange.gather.bytes },
        are,
        come,
        rw is told,
      );
}
  where
    same_turn : (a b : HostTurn) → Some a ≡ Some b → a ≡ b
    same_turn a b e = cc

pub tells_terminal_sent : (old seen : Option OperationOf) (o : OperationOf) (sent : DataSent)
    → old ≡ seen → old ≡ Some o → sent ≡ operation_sent o → TellsTerminalSent seen (Some sent)
tells_terminal_sent old seen o sent is some told =
    rw (sym is, some) (tells_operation_sent o sent told)
