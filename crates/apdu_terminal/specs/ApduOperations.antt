-- An operation at a terminal of whole commands that its caller drives: what the terminal keeps,
-- which pairs led there, and what each call does.
use Rattle.std.specs.Prelude.{◌≡◌, ◌+◌, ◌*◌, ◌<◌, ◌≤◌, ◌⊎◌, ℕ, List, [], ◌∷◌, ◌++◌, length, Option, Some, None, IfSome, IfErr, Result, MatchResult, Bool, true, false}
use Rattle.std.specs.List.{AllByRecursion}
use Rattle.apdu_core.specs.StatusWord.{StatusWord, ok}
use Rattle.apdu_core.specs.CommandBytes.{Command}
use Rattle.t0_core.specs.declared.answer_fault.AnswerFault.{AnswerFault}
use Rattle.t0_core.specs.declared.answer_fault.AnswerFault.TheVariants.{NotDue, Stalled}
use Rattle.t0_core.specs.HostAnswer.{fails_with}
use Rattle.t0_core.specs.Meaning.{Tpdu}
use Rattle.card_terminal.specs.declared.terminal.begin_fault.BeginFault.{BeginFault}
use Rattle.card_terminal.specs.declared.terminal.begin_fault.BeginFault.TheVariants.{OutOfMemory, UnderWay}
use Rattle.card_terminal.specs.declared.unsent.Unsent.{Unsent}
use Rattle.exchange_core.specs.Gathered.{wanted_by}
use Rattle.exchange_core.specs.ExchangeSide.{response_limit}
use Rattle.card_terminal.specs.TerminalSide.{AreLeft}
use Rattle.apdu_terminal.specs.declared.stage.Stage.TheVariants.{Going, Done, Failed}
use Rattle.apdu_terminal.specs.Apdus.{Pair, GathersApdus, all_content}
use Rattle.apdu_terminal.specs.ApduSide.{ApduExchangeOf, ComesTo, HasFew, IsSound, answer_of, answered_by, due_of, is_going, response_fault, to_go}
use Rattle.apdu_terminal.specs.ApduTalk.{AreApdusOf, talk_pairs}
use Rattle.apdu_terminal.specs.CardApdu.{RespondsToAll}

-- The exchange of the operation's last command, and the rest of a put after its data, under the tag
-- that P1-P2 name.
pub record ApduOperationOf : Type 0 where
  pub exchange : ApduExchangeOf
  pub p1 : ℕ
  pub p2 : ℕ
  pub rest : List ℕ

-- the most bytes of a response, and the last operation, if one has begun
pub record ApduTerminalOf : Type 0 where
  pub limit : ℕ
  pub operation : Option ApduOperationOf

-- no operation has begun
abbrev pub at_rest : ℕ → ApduTerminalOf
at_rest limit = record { limit = limit; operation = None }

-- the data of the last command are part of the operation's, and its exchange satisfies its
-- invariant
pub record IsPart (content : List ℕ) (from until : ℕ) (ex : ApduExchangeOf) : Type 0 where
  pub begin : from ≤ until
  pub within : until ≤ length content
  pub sound : IsSound ex

-- after a command with the status 9000 the next has begun, if one follows
abbrev pub IsSettled : ApduOperationOf → Type 0
IsSettled o = o.exchange.stage ≡ Done ok → o.rest ≡ []

abbrev pub HasRoomFor : ℕ → Option ApduOperationOf → Type 0
HasRoomFor limit operation = IfSome operation (λ o. o.exchange.gather.limit ≡ limit)

-- the invariant of terminals
pub record IsSet (limit : ℕ) (operation : Option ApduOperationOf) : Type 0 where
  pub few : limit ≤ response_limit
  pub is_room : HasRoomFor limit operation
  pub settled : IfSome operation (λ o. IsSettled o)

-- the limit stays, and is that of the exchange's room
pub record KeepsLimit (old new : ApduTerminalOf) : Type 0 where
  pub stays : new.limit ≡ old.limit
  pub is_room : HasRoomFor new.limit new.operation

-- a command is to be sent
abbrev pub is_under_way : Option ApduOperationOf → Bool
is_under_way None = false
is_under_way (Some o) = is_going o.exchange.stage

abbrev pub operation_due : Option ApduOperationOf → Option Command
operation_due None = None
operation_due (Some o) = due_of o.exchange

-- each command except those left has had its exchange, with the status 9000
abbrev pub AreApdusUpTo : List Command → List (List Pair) → List Command → Type 0
AreApdusUpTo commands [] left = left ≡ commands
AreApdusUpTo [] (pairs ∷ exchanges) left = ⊥
AreApdusUpTo (c ∷ commands) (pairs ∷ exchanges) left =
    (brought : List ℕ) × GathersApdus c pairs brought ok × AreApdusUpTo commands exchanges left

-- These pairs lead to the state of an operation with these commands: the exchanges of the first
-- ones, each with the status 9000, then the pairs that led to the exchange of the next.
pub record LeadsThrough (commands : List Command) (pairs : List Pair) (o : ApduOperationOf)
    : Type 0 where
  pub gone : List (List Pair)
  pub current : Command
  pub left : List Command
  pub taken : AreApdusUpTo commands gone (current ∷ left)
  pub are_left : AreLeft o.p1 o.p2 o.rest left
  pub here : List Pair
  pub led : ComesTo current (wanted_by current.le) here o.exchange
  pub pairs_are : pairs ≡ talk_pairs gone ++ here

abbrev pub LeadsTo : List Command → List Pair → Option ApduOperationOf → Type 0
LeadsTo commands pairs None = ⊥
LeadsTo commands pairs (Some o) = LeadsThrough commands pairs o × IsSettled o

-- a card has responded to the commands that led to the state of an operation
abbrev pub HasResponded : {State : Type 0} → (State → ℕ → Tpdu → State → Type 0) → List Command
    → State → State → Option ApduOperationOf → Type 0
HasResponded Does commands old new operation = (pairs : List Pair)
    × LeadsTo commands pairs operation × RespondsToAll Does old pairs new

-- the data of each exchange are at most `limit` bytes
abbrev pub HaveRoom : ℕ → List (List Pair) → Type 0
HaveRoom limit exchanges =
    AllByRecursion (λ pairs. length (all_content pairs) ≤ limit) exchanges

-- the exchange of the first command has begun, and the rest is still to be put
pub record BeginsWith (first : Command) (p1 p2 : ℕ) (rest : List ℕ) (o : ApduOperationOf)
    : Type 0 where
  pub led : ComesTo first (wanted_by first.le) [] o.exchange
  pub going : o.exchange.stage ≡ Going
  pub p1_is : o.p1 ≡ p1
  pub p2_is : o.p2 ≡ p2
  pub rest_is : o.rest ≡ rest

abbrev pub Begins : Unsent → ApduOperationOf → Type 0
Begins u o = BeginsWith u.first u.p1 u.p2 u.rest.now o

-- An operation whose commands are these has begun; or one is in progress, or memory ran out, and
-- nothing has changed.
pub record IsBeginning (AreIts : List Command → Type 0) (old : Option ApduOperationOf)
    (result : Result (Unit {0}) BeginFault) (new : Option ApduOperationOf) : Type 0 where
  pub begun : MatchResult result
      (λ _. (commands : List Command) × AreIts commands × LeadsTo commands [] new)
      (λ fault. new ≡ old)
  pub under_way : MatchResult result (λ _. is_under_way old ≡ false)
      (λ fault. ((fault ≡ UnderWay) × (is_under_way old ≡ true))
      ⊎ ((fault ≡ OutOfMemory) × (is_under_way old ≡ false)))

abbrev pub with_exchange : ApduOperationOf → ApduExchangeOf → ApduOperationOf
with_exchange o ex = record { exchange = ex; p1 = o.p1; p2 = o.p2; rest = o.rest }

-- the exchange of the next command has begun
pub record GoesToNext (old new : ApduOperationOf) : Type 0 where
  pub done : old.exchange.stage ≡ Done ok
  pub next : (left : List Command) → AreLeft old.p1 old.p2 old.rest left
      → (c : Command) × (after : List Command) × (left ≡ c ∷ after)
      × ComesTo c (wanted_by c.le) [] new.exchange × AreLeft new.p1 new.p2 new.rest after
  pub shrinks : length new.rest < length old.rest
  pub going : new.exchange.stage ≡ Going
  pub few : HasFew new.exchange
  pub limit : new.exchange.gather.limit ≡ old.exchange.gather.limit

-- A number that falls with each response, also if the next piece begins: how many more commands
-- there may be, a fixed number for each byte that is still to be put.
abbrev pub may_follow : Option ApduOperationOf → ℕ
may_follow None = 0
may_follow (Some o) = (2 * (response_limit + 2) + 2) * length o.rest + to_go o.exchange

-- if a command's exchange has ended and another follows, that begins; otherwise nothing changes
abbrev pub GoesOver : ApduOperationOf → ApduOperationOf → Type 0
GoesOver old new = (IsSettled old × (new ≡ old)) ⊎ GoesToNext old new

-- the fault of a response with `came` bytes, if it is one
abbrev pub operation_fault : Option ApduOperationOf → ℕ → Option AnswerFault
operation_fault None came = Some NotDue
operation_fault (Some o) came = response_fault o.exchange came

abbrev pub has_failed_at : Option ApduOperationOf → Type 0
has_failed_at None = ⊥
has_failed_at (Some o) = o.exchange.stage ≡ Failed

-- the next command, with this response
abbrev pub pair_of : Option ApduOperationOf → List ℕ → StatusWord → List Pair
pair_of None content status = []
pair_of (Some o) content status = answered_by o.exchange content status ∷ []

-- A terminal takes a response, or returns a fault. A fault that is not final changes nothing; after
-- a final one the operation has failed.
pub record IsTakingResponse (old : Option ApduOperationOf) (content : List ℕ)
    (status : StatusWord) (result : Result (Unit {0}) AnswerFault)
    (new : Option ApduOperationOf) : Type 0 where
  pub fault : MatchResult result (λ _. operation_fault old (length content) ≡ None)
      (λ f. (operation_fault old (length content) ≡ Some f)
      ⊎ ((f ≡ Stalled) × (operation_fault old (length content) ≡ None)))
  pub few : IfSome new (λ o. HasFew o.exchange)
  pub unchanged : IfErr result (λ f. fails_with f ≡ false → new ≡ old)
  pub failed : IfErr result (λ f. fails_with f ≡ true → has_failed_at new)
  pub led : (commands : List Command) (pairs : List Pair) → LeadsTo commands pairs old
      → MatchResult result
      (λ _. LeadsTo commands (pairs ++ pair_of old content status) new)
      (λ f. fails_with f ≡ true → LeadsTo commands (pairs ++ pair_of old content status) new)

abbrev pub operation_answer : Option ApduOperationOf → Option (StatusWord × List ℕ)
operation_answer None = None
operation_answer (Some o) = answer_of o.exchange

-- The status and the data of the last command, if the operation has ended. The pairs that led there
-- are the exchanges of its commands, with that answer.
pub record IsOperationAnswer (t : Option ApduOperationOf)
    (answer : Option (StatusWord × List ℕ)) : Type 0 where
  pub is : answer ≡ operation_answer t
  pub led : (commands : List Command) (pairs : List Pair) → LeadsTo commands pairs t
      → IfSome answer (λ a. (exchanges : List (List Pair))
      × AreApdusOf commands exchanges (record { status = a.0; content = a.1 })
      × (pairs ≡ talk_pairs exchanges))
