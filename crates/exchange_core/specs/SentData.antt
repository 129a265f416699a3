-- What an exchange and a terminal say of the data of their commands: whether all have left.
use Rattle.std.specs.Prelude.{◌≡◌, ℕ, List, Option, Some, None, IfSome}
use Rattle.std.specs.List.{flat_map}
use Rattle.apdu_core.specs.StatusWord.{StatusWord}
use Rattle.apdu_core.specs.CommandBytes.{Command}
use Rattle.t0_core.specs.declared.data_sent.DataSent.{DataSent}
use Rattle.t0_core.specs.DataSent.{both, sent_in, sent_in_all, IsKnown, Tells}
use Rattle.t0_core.specs.Dialogue.{Body, Dialogue}
use Rattle.t0_core.specs.Front.{In_body, After_first}
use Rattle.t0_core.specs.declared.host_end.HostTurn.TheVariants.{Done}
use Rattle.t0_core.specs.Character.{Character}
use Rattle.apdu_core.specs.Shared.{Reply}
use Rattle.exchange_core.specs.Gathered.{UnitOf, dialogues_of}
use Rattle.exchange_core.specs.ExchangeSide.{ExchangeOf, UnderWay, IsOver, GoesByCharacters, so_far, exchange_sent}

-- It is what the dialogues that have ended and the one in progress have moved to the card. It is
-- known if all went character by character.
pub record TellsSent (ex : ExchangeOf) (sent : DataSent) : Type 0 where
  pub value : sent ≡ exchange_sent ex
  pub known : GoesByCharacters ex → IsKnown sent
  pub in_body : (c : Command) (units : List UnitOf) (first : Option Dialogue) (b : Body)
      → UnderWay c ex units first (In_body b)
      → Tells sent (both (sent_in_all (so_far units first)) (sent_in b))
  pub after_sw1 : (c : Command) (units : List UnitOf) (first : Option Dialogue) (b : Body)
      (sw1 : ℕ) → UnderWay c ex units first (After_first b sw1)
      → Tells sent (both (sent_in_all (so_far units first)) (sent_in b))
  pub over : (c : Command) (units : List UnitOf) (status : StatusWord) → IsOver c ex units status
      → Tells sent (sent_in_all (flat_map dialogues_of units))
