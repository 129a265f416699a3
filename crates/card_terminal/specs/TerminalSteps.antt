-- What each call does to a `Terminal`.
use Rattle.std.specs.Prelude.{◌≡◌, ℕ, List, [], ◌∷◌, ◌++◌, Option, Some, None, true, false, ◌⊎◌, Result, MatchResult, OnOk, IfErr, IsErrOf, IfSome, is_some}
use Rattle.apdu_core.specs.StatusWord.{StatusWord}
use Rattle.apdu_core.specs.CommandBytes.{Command}
use Rattle.t0_core.specs.declared.end.End.TheVariants.{Terminal, Card}
use Rattle.t0_core.specs.declared.host_end.HostTurn.{HostTurn}
use Rattle.t0_core.specs.declared.host_end.HostTurn.TheVariants.{Sends, Done, Failed}
use Rattle.t0_core.specs.declared.line_fault.LineFault.{LineFault}
use Rattle.t0_core.specs.declared.line_fault.LineFault.TheVariants.{AfterEnd, Stalled}
use Rattle.t0_core.specs.declared.answer_fault.AnswerFault.{AnswerFault}
use Rattle.t0_core.specs.declared.answer_fault.AnswerFault.TheVariants as answer
use Rattle.t0_core.specs.declared.data_sent.DataSent.TheVariants.{All}
use Rattle.t0_core.specs.Character.{Character}
use Rattle.t0_core.specs.Dialogue.{Dialogue, characters}
use Rattle.t0_core.specs.HostSide.{fault_of, data_due}
use Rattle.t0_core.specs.HostAnswer.{answer_fault, fails_with, Gives}
use Rattle.t0_core.specs.TpduBytes.{Asked, due_by}
use Rattle.exchange_core.specs.declared.handed_out.HandedOut.{HandedOut}
use Rattle.card_terminal.specs.declared.terminal.begin_fault.BeginFault.{BeginFault}
use Rattle.card_terminal.specs.declared.terminal.begin_fault.BeginFault.TheVariants.{OutOfMemory, UnderWay}
use Rattle.exchange_core.specs.Buffers.{IsHandingOut}
use Rattle.exchange_core.specs.Gathered.{UnitOf}
use Rattle.card_terminal.specs.Talk.{AreExchangesOf, talk_characters}
use Rattle.exchange_core.specs.ExchangeSide.{IsBounded, is_final}
use Rattle.card_terminal.specs.TerminalSide.{OperationOf, LeadsTo, LeadsTooFarTo, GoByCharacters, operation_sent, terminal_turn, is_going}

-- An operation with these commands has begun. Or another is in progress, or memory ran out, and
-- nothing has changed.
pub record IsBeginning (AreIts : List Command → Type 0) (old : Option OperationOf)
    (result : Result (Unit {0}) BeginFault) (new : Option OperationOf) : Type 0 where
  pub begun : MatchResult result
      (λ _. (commands : List Command) × AreIts commands × LeadsTo commands [] new)
      (λ fault. new ≡ old)
  pub under_way : MatchResult result (λ _. is_going old ≡ false)
      (λ fault. ((fault ≡ UnderWay) × (is_going old ≡ true))
      ⊎ ((fault ≡ OutOfMemory) × (is_going old ≡ false)))
  pub by_characters : OnOk result (GoByCharacters new)

-- the exchange keeps within the bounds on its data and its TPDUs
abbrev pub KeepsBounds : Option OperationOf → Type 0
KeepsBounds t = IfSome t (λ o. IsBounded o.exchange)

-- The next turn of the terminal. A character that it sends follows those that led to the operation.
-- Only a character to send changes the terminal.
pub record IsTerminalTurn (old : Option OperationOf) (turn : Option HostTurn)
    (new : Option OperationOf) : Type 0 where
  pub turn_is : turn ≡ terminal_turn old
  pub stays : ((byte : ℕ) → turn ≡ Some (Sends byte) → ⊥) → new ≡ old
  pub bounds : KeepsBounds new
  pub by_characters : GoByCharacters old → GoByCharacters new
  pub led : (commands : List Command) (came : List Character) (byte : ℕ)
      → LeadsTo commands came old → turn ≡ Some (Sends byte)
      → LeadsTo commands (came ++ (Terminal, byte) ∷ []) new

-- the terminal writes characters to a buffer, as by turns, or nothing if no operation has begun
abbrev pub IsTerminalHandingOut : Option OperationOf → List ℕ → List ℕ → Option HandedOut
    → Option OperationOf → Type 0
IsTerminalHandingOut old before after None new =
    (old ≡ None) × (after ≡ before) × (new ≡ None)
IsTerminalHandingOut old before after (Some handed) new = (is_some old ≡ true)
    × IsHandingOut (λ s turn t. IsTerminalTurn s (Some turn) t) old before after handed new

-- the data character that the terminal sends next, if it sends one
abbrev pub terminal_data : Option OperationOf → Option ℕ
terminal_data None = None
terminal_data (Some o) = data_due o.exchange.host

-- the fault that a character of the card is, if any: `AfterEnd` if no operation has begun
abbrev pub character_fault : Option OperationOf → ℕ → Option LineFault
character_fault None byte = Some AfterEnd
character_fault (Some o) byte = fault_of o.exchange.host o.exchange.gather byte

-- The terminal takes a character of the card, or it is a fault. A fault that is not final changes
-- nothing; after a final one the operation has failed.
pub record IsTerminalTaking (old : Option OperationOf) (byte : ℕ)
    (result : Result (Unit {0}) LineFault) (new : Option OperationOf) : Type 0 where
  pub fault : MatchResult result (λ _. character_fault old byte ≡ None)
      (λ fault. (character_fault old byte ≡ Some fault)
      ⊎ ((fault ≡ Stalled) × (character_fault old byte ≡ None)))
  pub after_end : is_going old ≡ false → IsErrOf result AfterEnd
  pub bounds : KeepsBounds new
  pub unchanged : IfErr result (λ fault. is_final fault ≡ false → new ≡ old)
  pub failed : IfErr result (λ fault. is_final fault ≡ true → terminal_turn new ≡ Some Failed)
  pub by_characters : OnOk result (GoByCharacters old → GoByCharacters new)
  pub led : (commands : List Command) (came : List Character) → LeadsTo commands came old
      → MatchResult result (λ _. LeadsTo commands (came ++ (Card, byte) ∷ []) new)
      (λ fault. is_final fault ≡ true → LeadsTo commands (came ++ (Card, byte) ∷ []) new)

-- The status and the data of the last command of an operation that has ended, and nothing of any
-- other. They are what the characters that led there bring: exchanges of its commands, up to the
-- first status other than 9000.
pub record IsTerminalAnswer (t : Option OperationOf) (answer : Option (StatusWord × List ℕ))
    : Type 0 where
  pub done : (status : StatusWord) → terminal_turn t ≡ Some (Done status)
      → (bytes : List ℕ) × (answer ≡ Some (status, bytes))
      × IfSome t (λ o. bytes ≡ o.exchange.gather.bytes)
  pub undone : ((status : StatusWord) → terminal_turn t ≡ Some (Done status) → ⊥) → answer ≡ None
  pub led : (commands : List Command) (came : List Character) → LeadsTo commands came t
      → IfSome answer (λ a. (exchanges : List (List UnitOf))
      × AreExchangesOf commands exchanges (record { status = a.0; content = a.1 })
      × (came ≡ talk_characters exchanges))

-- the next TPDU as a whole, if no character of it was sent
abbrev pub terminal_due : Option OperationOf → Option Asked
terminal_due None = None
terminal_due (Some o) = due_by o.exchange.host

-- the fault that an answer with these data is, if any: `NotDue` if no operation has begun
abbrev pub whole_fault : Option OperationOf → List ℕ → Option AnswerFault
whole_fault None bytes = Some answer.NotDue
whole_fault (Some o) bytes = answer_fault o.exchange.host o.exchange.gather bytes

-- the dialogue is one that the terminal opens next, with these data and this status
abbrev pub GivesTo : Option OperationOf → Dialogue → List ℕ → StatusWord → Type 0
GivesTo None d bytes status = ⊥
GivesTo (Some o) d bytes status = Gives o.exchange.host d bytes status

-- The terminal takes the answer to a whole TPDU, or it is a fault. Which data left in it is not
-- known. After any dialogue with this
-- answer it continues as after its characters, or fails as there. A fault that is not final changes
-- nothing. Some dialogue gives each answer that is taken or makes the operation fail.
pub record IsTerminalAnswering (old : Option OperationOf) (bytes : List ℕ) (status : StatusWord)
    (result : Result (Unit {0}) AnswerFault) (new : Option OperationOf) : Type 0 where
  pub fault : MatchResult result (λ _. whole_fault old bytes ≡ None)
      (λ fault. (whole_fault old bytes ≡ Some fault)
      ⊎ ((fault ≡ answer.Stalled) × (whole_fault old bytes ≡ None)))
  pub bounds : KeepsBounds new
  pub unchanged : IfErr result (λ fault. fails_with fault ≡ false → new ≡ old)
  pub failed : IfErr result (λ fault. fails_with fault ≡ true → terminal_turn new ≡ Some Failed)
  pub whole : OnOk result (IfSome new (λ o. operation_sent o ≡ All → ⊥))
  pub led : (commands : List Command) (came : List Character) (d : Dialogue)
      → LeadsTo commands came old → GivesTo old d bytes status
      → MatchResult result (λ _. LeadsTo commands (came ++ characters d) new)
      (λ fault. ((fault ≡ answer.Stalled) × LeadsTo commands (came ++ characters d) new)
      ⊎ ((fault ≡ answer.TooLong) × LeadsTooFarTo commands came (characters d) new)
      ⊎ (fault ≡ answer.NotDue))
  pub given : MatchResult result (λ _. (d : Dialogue) × GivesTo old d bytes status)
      (λ fault. fails_with fault ≡ true → (d : Dialogue) × GivesTo old d bytes status)
