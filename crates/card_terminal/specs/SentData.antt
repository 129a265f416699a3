-- What an exchange and a terminal say of the data of their commands: whether all have left.
use Rattle.std.specs.Prelude.{◌≡◌, ℕ, List, Option, Some, None, IfSome}
use Rattle.std.specs.List.{flat_map}
use Rattle.apdu_core.specs.StatusWord.{StatusWord}
use Rattle.apdu_core.specs.CommandBytes.{Command}
use Rattle.t0_core.specs.declared.data_sent.DataSent.{DataSent}
use Rattle.t0_core.specs.DataSent.{both, sent_in, sent_in_all, IsKnown, Tells}
use Rattle.t0_core.specs.Dialogue.{Body, Dialogue}
use Rattle.t0_core.specs.Front.{In_body, After_first}
use Rattle.t0_core.specs.declared.host_end.HostTurn.TheVariants.{Done}
use Rattle.t0_core.specs.Character.{Character}
use Rattle.apdu_core.specs.Shared.{Reply}
use Rattle.card_terminal.specs.Talk.{AreExchangesOf, talk_dialogues, talk_characters}
use Rattle.card_terminal.specs.TerminalSide.{OperationOf, LeadsTo, GoByCharacters, operation_sent, terminal_turn}
use Rattle.exchange_core.specs.Gathered.{UnitOf, dialogues_of}
use Rattle.exchange_core.specs.ExchangeSide.{ExchangeOf, UnderWay, IsOver, GoesByCharacters, so_far, exchange_sent}
use Rattle.exchange_core.specs.SentData.{TellsSent}

abbrev pub terminal_sent : Option OperationOf → Option DataSent
terminal_sent None = None
terminal_sent (Some o) = Some (operation_sent o)

-- The same of an operation, if one has begun. Once it has ended, it is what the exchanges that its
-- characters form have moved to the card.
pub record TellsTerminalSent (t : Option OperationOf) (sent : Option DataSent) : Type 0 where
  pub value : sent ≡ terminal_sent t
  pub known : GoByCharacters t → IfSome sent (λ s. IsKnown s)
  pub over : (commands : List Command) (came : List Character) (status : StatusWord)
      → LeadsTo commands came t → terminal_turn t ≡ Some (Done status)
      → IfSome sent (λ s. (exchanges : List (List UnitOf)) × (answer : Reply)
      × AreExchangesOf commands exchanges answer × (came ≡ talk_characters exchanges)
      × Tells s (sent_in_all (talk_dialogues exchanges)))
