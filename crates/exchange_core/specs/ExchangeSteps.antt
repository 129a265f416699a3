-- What each call does to an exchange, for `Exchange`, `OwnedExchange` and what is built on them.
use Rattle.std.specs.Prelude.{◌≡◌, ◌<◌, ◌≤◌, ◌+◌, ℕ, List, [], ◌∷◌, ◌++◌, length, Option, Some, None, true, false, ◌⊎◌, Result, Ok, MatchResult, OnOk, OnErr, IfErr, IsErrOf, IfSome}
use Rattle.apdu_core.specs.StatusWord.{StatusWord}
use Rattle.apdu_core.specs.CommandBytes.{Command}
use Rattle.t0_core.specs.declared.end.End.TheVariants.{Terminal, Card}
use Rattle.t0_core.specs.declared.host_end.HostTurn.{HostTurn}
use Rattle.t0_core.specs.declared.host_end.HostTurn.TheVariants.{Sends, Done, Failed}
use Rattle.t0_core.specs.declared.line_fault.LineFault.{LineFault}
use Rattle.t0_core.specs.declared.line_fault.LineFault.TheVariants.{AfterEnd, TooLong, Stalled}
use Rattle.t0_core.specs.declared.answer_fault.AnswerFault.{AnswerFault}
use Rattle.t0_core.specs.declared.answer_fault.AnswerFault.TheVariants as answer
use Rattle.t0_core.specs.declared.data_sent.DataSent.TheVariants.{NotKnown}
use Rattle.t0_core.specs.DataSent.{both}
use Rattle.t0_core.specs.Character.{Character}
use Rattle.t0_core.specs.Dialogue.{Dialogue, characters}
use Rattle.t0_core.specs.Front.{Front, GoesOn, Ends, brought, fresh}
use Rattle.t0_core.specs.HostSide.{fault_of}
use Rattle.t0_core.specs.HostAnswer.{answer_fault, fails_with, Gives}
use Rattle.exchange_core.specs.declared.start_fault.StartFault.{StartFault}
use Rattle.exchange_core.specs.declared.start_fault.StartFault.TheVariants.{OutOfMemory, OverLimit}
use Rattle.exchange_core.specs.Gathered.{UnitOf, Gathers}
use Rattle.exchange_core.specs.ExchangeSide.{ExchangeOf, UnderWay, IsBounded, IsAtEnd, Continues, Stall, GoesByCharacters, exchange_turn, exchange_sent, ended_with, is_final, response_limit}
use Rattle.exchange_core.specs.ExchangeHistory.{ComesTo, ComesTooFar, unit_characters}

-- An exchange with this limit has begun. Or the limit exceeds that of any response. Or it does not,
-- and memory ran out.
abbrev pub IsLimited : ℕ → Result ExchangeOf StartFault → Type 0
IsLimited limit result = MatchResult result
    (λ ex. (limit ≤ response_limit) × (ex.gather.limit ≡ limit))
    (λ fault. ((fault ≡ OverLimit) × (response_limit < limit))
    ⊎ ((fault ≡ OutOfMemory) × (limit ≤ response_limit)))

-- The next turn of the terminal. A character that it sends continues the current dialogue, and
-- follows the characters that led to the exchange. Only a character to send changes the exchange,
-- and nothing changes its room.
pub record IsTurn (old : ExchangeOf) (turn : HostTurn) (new : ExchangeOf) : Type 0 where
  pub turn_is : turn ≡ exchange_turn old
  pub stays : ((byte : ℕ) → turn ≡ Sends byte → ⊥) → new ≡ old
  pub bounds : IsBounded new
  pub limit : new.gather.limit ≡ old.gather.limit
  pub goes_on : (c : Command) (units : List UnitOf) (first : Option Dialogue) (front : Front)
      (byte : ℕ) → UnderWay c old units first front → turn ≡ Sends byte
      → (next : Front) × GoesOn front (Terminal, byte) next × UnderWay c new units first next
  pub by_characters : GoesByCharacters old → GoesByCharacters new
  pub led : (c : Command) (came : List Character) (byte : ℕ) → ComesTo c came old
      → turn ≡ Sends byte → ComesTo c (came ++ (Terminal, byte) ∷ []) new

-- The exchange takes a character of the card, which leaves as it is what the terminal has sent; or
-- it is a fault. A fault that is not final changes
-- nothing; after a final one the exchange has failed.
pub record IsTaking (old : ExchangeOf) (byte : ℕ) (result : Result (Unit {0}) LineFault)
    (new : ExchangeOf) : Type 0 where
  pub fault : MatchResult result (λ _. fault_of old.host old.gather byte ≡ None)
      (λ fault. (fault_of old.host old.gather byte ≡ Some fault)
      ⊎ ((fault ≡ Stalled) × (fault_of old.host old.gather byte ≡ None)))
  pub bounds : IsBounded new
  pub limit : new.gather.limit ≡ old.gather.limit
  pub after_end : IsAtEnd old → IsErrOf result AfterEnd
  pub unchanged : IfErr result (λ fault. is_final fault ≡ false → new ≡ old)
  pub failed : IfErr result (λ fault. is_final fault ≡ true → exchange_turn new ≡ Failed)
  pub goes_on : (c : Command) (units : List UnitOf) (first : Option Dialogue) (front next : Front)
      → UnderWay c old units first front → GoesOn front (Card, byte) next
      → MatchResult result (λ _. UnderWay c new units first next) (λ fault. fault ≡ TooLong)
  pub full : (c : Command) (units : List UnitOf) (first : Option Dialogue) (front next : Front)
      → UnderWay c old units first front → GoesOn front (Card, byte) next
      → OnErr result ((length old.gather.bytes ≡ old.gather.limit)
      × (brought next ≡ brought front ++ byte ∷ []))
  pub came : (c : Command) (units : List UnitOf) (first : Option Dialogue) (front : Front)
      → UnderWay c old units first front
      → OnOk result (((next : Front) × GoesOn front (Card, byte) next)
      ⊎ ((d : Dialogue) × Ends front (Card, byte) d))
  pub ends : (c : Command) (units : List UnitOf) (first : Option Dialogue) (front : Front)
      (d : Dialogue) → UnderWay c old units first front → Ends front (Card, byte) d
      → MatchResult result (λ _. Continues c new units first d)
      (λ fault. (fault ≡ Stalled) × Stall c (units ++ ended_with first d ∷ []))
  pub by_characters : OnOk result (GoesByCharacters old → GoesByCharacters new)
  pub sent : OnOk result (exchange_sent new ≡ exchange_sent old)
  pub led : (c : Command) (came : List Character) → ComesTo c came old
      → MatchResult result (λ _. ComesTo c (came ++ (Card, byte) ∷ []) new)
      (λ fault. is_final fault ≡ true → ComesTo c (came ++ (Card, byte) ∷ []) new)

-- it sends the character in its turn
abbrev pub SendsOne : ExchangeOf → ℕ → ExchangeOf → Type 0
SendsOne old byte new = IsTurn old (Sends byte) new

-- it takes the character
abbrev pub TakesOne : ExchangeOf → ℕ → ExchangeOf → Type 0
TakesOne old byte new = IsTaking old byte (Ok tt) new

-- The exchange takes the answer to a whole TPDU, or it is a fault. Which data left in it is not
-- known. After any dialogue with this
-- answer it continues as after its characters, or fails as there. A fault that is not final changes
-- nothing.
pub record IsAnswering (old : ExchangeOf) (bytes : List ℕ) (status : StatusWord)
    (result : Result (Unit {0}) AnswerFault) (new : ExchangeOf) : Type 0 where
  pub fault : MatchResult result (λ _. answer_fault old.host old.gather bytes ≡ None)
      (λ fault. (answer_fault old.host old.gather bytes ≡ Some fault)
      ⊎ ((fault ≡ answer.Stalled) × (answer_fault old.host old.gather bytes ≡ None)))
  pub bounds : IsBounded new
  pub limit : new.gather.limit ≡ old.gather.limit
  pub unchanged : IfErr result (λ fault. fails_with fault ≡ false → new ≡ old)
  pub failed : IfErr result (λ fault. fails_with fault ≡ true → exchange_turn new ≡ Failed)
  pub ends : (c : Command) (units : List UnitOf) (first : Option Dialogue) (d : Dialogue)
      → UnderWay c old units first fresh → Gives old.host d bytes status
      → MatchResult result (λ _. Continues c new units first d)
      (λ fault. ((fault ≡ answer.Stalled) × Stall c (units ++ ended_with first d ∷ []))
      ⊎ ((fault ≡ answer.TooLong)
      × (old.gather.limit < length old.gather.bytes + length bytes)))
  pub whole : OnOk result (exchange_sent new ≡ both old.attempt.sent NotKnown)
  pub led : (c : Command) (came : List Character) (d : Dialogue) → ComesTo c came old
      → Gives old.host d bytes status
      → MatchResult result (λ _. ComesTo c (came ++ characters d) new)
      (λ fault. ((fault ≡ answer.Stalled) × ComesTo c (came ++ characters d) new)
      ⊎ ((fault ≡ answer.TooLong) × ComesTooFar c came (characters d) new)
      ⊎ (fault ≡ answer.NotDue))
  pub given : MatchResult result (λ _. (d : Dialogue) × Gives old.host d bytes status)
      (λ fault. fails_with fault ≡ true → (d : Dialogue) × Gives old.host d bytes status)

-- The status and the data of an exchange that has ended, and nothing of any other. They are what
-- the characters that led to it gather.
pub record IsAnswer (ex : ExchangeOf) (answer : Option (StatusWord × List ℕ)) : Type 0 where
  pub done : (status : StatusWord) → exchange_turn ex ≡ Done status
      → answer ≡ Some (status, ex.gather.bytes)
  pub undone : ((status : StatusWord) → exchange_turn ex ≡ Done status → ⊥) → answer ≡ None
  pub led : (c : Command) (came : List Character) → ComesTo c came ex
      → IfSome answer (λ a. (units : List UnitOf) × Gathers c units a.1 a.0
      × (came ≡ unit_characters units))
