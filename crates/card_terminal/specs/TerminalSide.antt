-- The operation of a `Terminal`: its state, and the characters that led there.
use Rattle.std.specs.Prelude.{◌≡◌, ◌≤◌, ◌⊎◌, ℕ, List, [], ◌∷◌, ◌++◌, Option, Some, None, IfSome, Bool, true, false, not}
use Rattle.std.specs.List.{AllByRecursion}
use Rattle.apdu_core.specs.StatusWord.{ok}
use Rattle.apdu_core.specs.CommandBytes.{Command}
use Rattle.apdu_core.specs.Chaining.{IsPieces, chain_commands}
use Rattle.t0_core.specs.declared.host_end.HostTurn.{HostTurn}
use Rattle.t0_core.specs.declared.host_end.HostTurn.TheVariants.{Sends, Done}
use Rattle.t0_core.specs.declared.data_sent.DataSent.{DataSent}
use Rattle.t0_core.specs.DataSent.{both, sent_in_all, IsKnown, Tells}
use Rattle.t0_core.specs.Character.{Character}
use Rattle.t0_core.specs.Dialogue.{IsDialogue}
use Rattle.object_card.specs.CarryingOut.{put_header}
use Rattle.exchange_core.specs.Gathered.{UnitOf}
use Rattle.card_terminal.specs.Talk.{AreTakenUpTo, talk_dialogues, talk_characters}
use Rattle.exchange_core.specs.ExchangeSide.{ExchangeOf, IsBounded, GoesByCharacters, exchange_turn, exchange_sent, response_limit}
use Rattle.exchange_core.specs.ExchangeHistory.{ComesTo, ComesTooFar}
use Rattle.card_terminal.specs.Conversing.{is_done}

-- The exchange of the operation's current command; the bytes still to put after its data (`rest`),
-- under the tag that these P1-P2 name; and whether that command is the first. `sent` is whether
-- those before it have sent all their data.
pub record OperationOf : Type 0 where
  pub exchange : ExchangeOf
  pub p1 : ℕ
  pub p2 : ℕ
  pub rest : List ℕ
  pub first : Bool
  pub sent : DataSent

-- the view of a terminal: the most bytes that a response may have, and the last operation, if any
pub record TerminalOf : Type 0 where
  pub limit : ℕ
  pub operation : Option OperationOf

-- a terminal without an operation
abbrev pub at_rest : ℕ → TerminalOf
at_rest limit = record { limit = limit; operation = None }

-- the room of the operation's exchange is `limit` bytes
abbrev pub HasRoomFor : ℕ → Option OperationOf → Type 0
HasRoomFor limit operation = IfSome operation (λ o. o.exchange.gather.limit ≡ limit)

-- the limit of a terminal stays as it was, and is that of its exchange
pub record KeepsLimit (old new : TerminalOf) : Type 0 where
  pub stays : new.limit ≡ old.limit
  pub is_room : HasRoomFor new.limit new.operation

-- the next commands of the operation: none, or those that carry the rest of the value
abbrev pub AreLeft : ℕ → ℕ → List ℕ → List Command → Type 0
AreLeft p1 p2 [] left = left ≡ []
AreLeft p1 p2 (b ∷ bs) left = (pieces : List (List ℕ)) × IsPieces (b ∷ bs) pieces
    × (left ≡ chain_commands (put_header p1 p2) pieces)

-- The characters of an operation with these commands. They are those of whole exchanges of its
-- first commands (`gone`), each with the status 9000, and then those that led to the exchange of
-- the current command (`here`).
pub record HasCome (Led : Command → List Character → Type 0) (commands : List Command)
    (came : List Character) (o : OperationOf) : Type 0 where
  pub gone : List (List UnitOf)
  pub current : Command
  pub left : List Command
  pub taken : AreTakenUpTo commands gone (current ∷ left)
  pub is_first : o.first ≡ true → gone ≡ []
  pub are_dialogues : AllByRecursion IsDialogue (talk_dialogues gone)
  pub are_left : AreLeft o.p1 o.p2 o.rest left
  pub sent_is : Tells o.sent (sent_in_all (talk_dialogues gone))
  pub here : List Character
  pub led : Led current here
  pub came_is : came ≡ talk_characters gone ++ here

-- these characters lead to this state of the operation
abbrev pub LeadsThrough : List Command → List Character → OperationOf → Type 0
LeadsThrough commands came o = HasCome (λ c here. ComesTo c here o.exchange) commands came o

-- after `came`, the characters `cs` lead to the first for which there is no room
abbrev pub LeadsThroughTooFar : List Command → List Character → List Character → OperationOf
    → Type 0
LeadsThroughTooFar commands came cs o =
    HasCome (λ c here. ComesTooFar c here cs o.exchange) commands came o

-- if the status of the current command is 9000, it is the last: otherwise the next has begun
abbrev pub IsSettled : OperationOf → Type 0
IsSettled o = exchange_turn o.exchange ≡ Done ok → o.rest ≡ []

-- the invariant of a terminal
pub record IsSet (limit : ℕ) (operation : Option OperationOf) : Type 0 where
  pub few : limit ≤ response_limit
  pub is_room : HasRoomFor limit operation
  pub settled : IfSome operation (λ o. IsSettled o)

-- These characters lead to this operation of a terminal. If the status of a command was 9000, the
-- next has begun, if one follows.
abbrev pub LeadsTo : List Command → List Character → Option OperationOf → Type 0
LeadsTo commands came None = ⊥
LeadsTo commands came (Some o) = LeadsThrough commands came o × IsSettled o

abbrev pub LeadsTooFarTo : List Command → List Character → List Character → Option OperationOf
    → Type 0
LeadsTooFarTo commands came cs None = ⊥
LeadsTooFarTo commands came cs (Some o) = LeadsThroughTooFar commands came cs o

-- what a terminal does next: what the exchange does
abbrev pub terminal_turn : Option OperationOf → Option HostTurn
terminal_turn None = None
terminal_turn (Some o) = Some (exchange_turn o.exchange)

-- an operation is in progress: it sends or listens
abbrev pub is_going : Option OperationOf → Bool
is_going None = false
is_going (Some o) = not (is_done (exchange_turn o.exchange))

abbrev pub with_exchange : OperationOf → ExchangeOf → OperationOf
with_exchange o ex =
    record {
      exchange = ex;
      p1 = o.p1;
      p2 = o.p2;
      rest = o.rest;
      first = o.first;
      sent = o.sent;
    }

-- whether all data of its commands so far have left the terminal
abbrev pub operation_sent : OperationOf → DataSent
operation_sent o = both o.sent (exchange_sent o.exchange)

-- all TPDUs so far went character by character, and no error has ended the last
abbrev pub GoByCharacters : Option OperationOf → Type 0
GoByCharacters None = Unit {0}
GoByCharacters (Some o) = IsKnown o.sent × GoesByCharacters o.exchange

-- the exchange of the next command has begun, and the terminal sends next
pub record GoesToNext (old new : OperationOf) : Type 0 where
  pub done : exchange_turn old.exchange ≡ Done ok
  pub more : old.rest ≡ [] → ⊥
  pub next : (left : List Command) → AreLeft old.p1 old.p2 old.rest left
      → (c : Command) × (after : List Command) × (left ≡ c ∷ after) × ComesTo c [] new.exchange
      × AreLeft new.p1 new.p2 new.rest after
  pub sends : (byte : ℕ) × (exchange_turn new.exchange ≡ Sends byte)
  pub later : new.first ≡ false
  pub sent : new.sent ≡ operation_sent old
  pub by_characters : GoesByCharacters new.exchange
  pub bounds : IsBounded new.exchange
  pub limit : new.exchange.gather.limit ≡ old.exchange.gather.limit

-- after the status 9000 of a command the next begins, if one follows; otherwise nothing changes
abbrev pub GoesOver : OperationOf → OperationOf → Type 0
GoesOver old new = (IsSettled old × (new ≡ old)) ⊎ GoesToNext old new
