-- The characters that led to a state of an exchange, whatever the card sent.
use Rattle.std.specs.Prelude.{◌≡◌, ℕ, List, [], ◌∷◌, ◌++◌, Option, Some, None, true}
use Rattle.std.specs.List.{AllByRecursion, flat_map}
use Rattle.apdu_core.specs.StatusWord.{StatusWord}
use Rattle.apdu_core.specs.CommandBytes.{Command}
use Rattle.t0_core.specs.declared.end.End.{End}
use Rattle.t0_core.specs.declared.end.End.TheVariants.{Terminal, Card}
use Rattle.t0_core.specs.declared.host_end.HostTurn.TheVariants.{Sends, Listens, Failed}
use Rattle.t0_core.specs.declared.line_fault.LineFault.{LineFault}
use Rattle.t0_core.specs.declared.line_fault.LineFault.TheVariants.{TooLong}
use Rattle.t0_core.specs.Character.{Character}
use Rattle.t0_core.specs.Dialogue.{Dialogue, characters, IsDialogue}
use Rattle.t0_core.specs.Front.{Front, front_characters}
use Rattle.t0_core.specs.HostSide.{fault_of}
use Rattle.exchange_core.specs.Gathered.{UnitOf, dialogues_of, IsOpenExchange}
use Rattle.exchange_core.specs.ExchangeSide.{ExchangeOf, UnderWay, IsOver, Stall, so_far, exchange_turn, is_final}

-- the characters of units
abbrev pub unit_characters : List UnitOf → List Character
unit_characters units = flat_map characters (flat_map dialogues_of units)

-- the characters of units, of the first dialogue of one more if that is repeated, and of a front of
-- the next dialogue
abbrev pub characters_to : List UnitOf → Option Dialogue → Front → List Character
characters_to units first front = flat_map characters (so_far units first) ++ front_characters front

-- These characters lead to this state of the exchange: to a front of a dialogue, to the end of a
-- whole exchange, or to the end of one that stalls. Or they lead to such a front, and then to a
-- final fault (`is_final`): no procedure byte if one is expected, or data that exceed the room.
pub data ComesTo (c : Command) (came : List Character) (ex : ExchangeOf) : Type 0 where
  to_front : (units : List UnitOf) (first : Option Dialogue) (front : Front)
      → UnderWay c ex units first front
      → came ≡ characters_to units first front → ComesTo c came ex
  to_end : (units : List UnitOf) (status : StatusWord) → IsOver c ex units status
      → came ≡ unit_characters units → ComesTo c came ex
  to_stall : (units : List UnitOf) → Stall c units
      → AllByRecursion IsDialogue (flat_map dialogues_of units)
      → exchange_turn ex ≡ Failed → came ≡ unit_characters units → ComesTo c came ex
  to_fault : (units : List UnitOf) (first : Option Dialogue) (front : Front)
      (before : ExchangeOf) (byte : ℕ) (fault : LineFault)
      → UnderWay c before units first front
      → fault_of before.host before.gather byte ≡ Some fault → is_final fault ≡ true
      → exchange_turn ex ≡ Failed → before.gather.limit ≡ ex.gather.limit
      → came ≡ characters_to units first front ++ (Card, byte) ∷ [] → ComesTo c came ex

-- After `came`, the characters `cs` lead to the first for which there is no room. With it they lead
-- to this state of the exchange, which has failed.
pub record ComesTooFar (c : Command) (came cs : List Character) (ex : ExchangeOf) : Type 0 where
  pub before : List Character
  pub byte : ℕ
  pub rest : List Character
  pub cs_are : cs ≡ before ++ (Card, byte) ∷ rest
  pub prior : ExchangeOf
  pub led : ComesTo c (came ++ before) prior
  pub is_fault : fault_of prior.host prior.gather byte ≡ Some TooLong
  pub limit : prior.gather.limit ≡ ex.gather.limit
  pub led_to : ComesTo c ((came ++ before) ++ (Card, byte) ∷ []) ex

-- the characters are a front of those of an open exchange
pub record BeginsExchange (c : Command) (came : List Character) : Type 0 where
  pub units : List UnitOf
  pub is_open : IsOpenExchange c units
  pub are_dialogues : AllByRecursion IsDialogue (flat_map dialogues_of units)
  pub rest : List Character
  pub whole : unit_characters units ≡ came ++ rest

-- the exchange sends this character, or listens and takes it without a fault
abbrev pub Expects : ExchangeOf → Character → Type 0
Expects ex c = From c.0 where
  From : End → Type 0
  From Terminal = exchange_turn ex ≡ Sends c.1
  From Card = (exchange_turn ex ≡ Listens) × (fault_of ex.host ex.gather c.1 ≡ None)

-- The last character is the card's, and was a fault that ended the exchange for good. Those before
-- it are the first characters of an open exchange, and led to a state in which it is a fault.
pub record FaultCameLast (c : Command) (came : List Character) (ex : ExchangeOf) : Type 0 where
  pub before : List Character
  pub byte : ℕ
  pub came_is : came ≡ before ++ (Card, byte) ∷ []
  pub begins : BeginsExchange c before
  pub prior : ExchangeOf
  pub led : ComesTo c before prior
  pub fault : LineFault
  pub is_fault : fault_of prior.host prior.gather byte ≡ Some fault
  pub is_final : is_final fault ≡ true
  pub limit : prior.gather.limit ≡ ex.gather.limit
  pub failed : exchange_turn ex ≡ Failed
