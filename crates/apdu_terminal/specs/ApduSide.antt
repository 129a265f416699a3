-- The state of an exchange of whole commands, and what each of its calls does.
use Rattle.std.specs.Prelude.{◌≡◌, ℕ, ◌+◌, ◌-◌, ◌*◌, ◌≤◌, List, [], ◌∷◌, ◌++◌, length, Option, Some, None, Bool, true, false, nat_lt, nat_le, if◌then◌else◌, ◌⊎◌, ◌<◌, Result, MatchResult, IfErr, OnOk}
use Rattle.apdu_core.specs.StatusWord.{StatusWord}
use Rattle.apdu_core.specs.CommandBytes.{Command, HasSizes}
use Rattle.t0_core.specs.declared.answer_fault.AnswerFault.{AnswerFault}
use Rattle.t0_core.specs.declared.answer_fault.AnswerFault.TheVariants.{NotDue, NotAsked, TooMany, TooLong, Stalled}
use Rattle.t0_core.specs.HostAnswer.{fails_with}
use Rattle.t0_core.specs.Room.{Room}
use Rattle.exchange_core.specs.declared.start_fault.StartFault.{StartFault}
use Rattle.exchange_core.specs.declared.start_fault.StartFault.TheVariants.{OutOfMemory, OverLimit}
use Rattle.exchange_core.specs.declared.wanted.Wanted.{Wanted}
use Rattle.exchange_core.specs.declared.attempt.Attempt.{Attempt}
use Rattle.exchange_core.specs.Attempts.{IsCounted}
use Rattle.exchange_core.specs.Gathered.{less}
use Rattle.exchange_core.specs.ExchangeSide.{response_limit}
use Rattle.apdu_terminal.specs.declared.exchange.apdu_mark.ApduMark.{ApduMark}
use Rattle.apdu_terminal.specs.declared.stage.Stage.{Stage}
use Rattle.apdu_terminal.specs.declared.stage.Stage.TheVariants.{Going, Done, Failed}
use Rattle.apdu_terminal.specs.Apdus.{Pair, Place, first_place, is_case_2, may_bring, GoesThrough, all_content, Brings, StallsAt, IsTooLong}

-- what an exchange keeps: data and Le of its last or next command, the data received so far, the
-- place of that command, how much is wanted, and the stage
pub record ApduExchangeOf : Type 0 where
  pub content : List ℕ
  pub le : Option ℕ
  pub gather : Room
  pub attempt : Attempt
  pub wanted : Wanted
  pub stage : Stage

abbrev pub command_of : ApduExchangeOf → Command
command_of ex = record { header = ex.attempt.header; content = ex.content; le = ex.le }

abbrev pub is_going : Stage → Bool
is_going Going = true
is_going (Done status) = false
is_going Failed = false

-- the next command, if there is one
abbrev pub due_of : ApduExchangeOf → Option Command
due_of ex = if is_going ex.stage then Some (command_of ex) else None

-- the place of its next command
abbrev pub place_of : ApduExchangeOf → Place
place_of ex = record {
  attempt = ex.attempt;
  content = ex.content;
  le = ex.le;
  left = less ex.wanted (length ex.gather.bytes);
  gathered = length ex.gather.bytes;
}

-- An exchange with this room has begun; or the limit is above the largest response; or it is not,
-- and memory ran out.
abbrev pub IsLimitedTo : ℕ → Result ApduExchangeOf StartFault → Type 0
IsLimitedTo limit result = MatchResult result
    (λ ex. (limit ≤ response_limit) × (ex.gather.limit ≡ limit))
    (λ fault. ((fault ≡ OverLimit) × (response_limit < limit))
    ⊎ ((fault ≡ OutOfMemory) × (limit ≤ response_limit)))

-- the invariant of exchanges
pub record IsSound (ex : ApduExchangeOf) : Type 0 where
  pub counted : IsCounted ex.attempt (length ex.gather.bytes)
  pub sizes : HasSizes ex.content ex.le
  pub asks : ex.attempt.asks ≡ is_case_2 ex.content ex.le
  pub room : ex.gather.limit ≤ response_limit
  pub fits : length ex.gather.bytes ≤ ex.gather.limit

-- with r bytes gathered, at most 2(r + 2) commands were sent or are next
abbrev pub HasFew : ApduExchangeOf → Type 0
HasFew ex = ex.attempt.number ≤ 2 * (length ex.gather.bytes + 2)

-- the status and the data, if it has ended
abbrev pub answer_at : Stage → List ℕ → Option (StatusWord × List ℕ)
answer_at Going bytes = None
answer_at (Done status) bytes = Some (status, bytes)
answer_at Failed bytes = None

abbrev pub answer_of : ApduExchangeOf → Option (StatusWord × List ℕ)
answer_of ex = answer_at ex.stage ex.gather.bytes

abbrev pub has_failed : Stage → Bool
has_failed Going = false
has_failed (Done status) = false
has_failed Failed = true

-- a number that falls with each response: how many more commands there may be
abbrev pub to_go : ApduExchangeOf → ℕ
to_go ex =
    if is_going ex.stage then (2 * (ex.gather.limit + 2) + 1) - ex.attempt.number else 0

-- the command has the data and Le of the one before, or no data
abbrev pub KeepsData : ApduExchangeOf → ApduExchangeOf → Type 0
KeepsData old new = (new.content ≡ []) ⊎ ((new.content ≡ old.content) × (new.le ≡ old.le))

-- These pairs lead to the exchange as it is: it continues, has ended, has stalled, or has too
-- little room.
pub data ComesTo (c : Command) (wanted : Wanted) (pairs : List Pair) (ex : ApduExchangeOf)
    : Type 0 where
  to_place : ex.stage ≡ Going → GoesThrough (first_place c wanted) pairs (place_of ex)
      → ex.gather.bytes ≡ all_content pairs → ex.wanted ≡ wanted
      → ex.attempt.number ≡ length pairs + 1 → ComesTo c wanted pairs ex
  to_end : (status : StatusWord) → ex.stage ≡ Done status
      → Brings c wanted pairs ex.gather.bytes status
      → ex.attempt.number ≡ length pairs → ComesTo c wanted pairs ex
  to_stall : ex.stage ≡ Failed → StallsAt c wanted pairs → ComesTo c wanted pairs ex
  to_fault : ex.stage ≡ Failed → IsTooLong c wanted pairs ex.gather.limit
      → ComesTo c wanted pairs ex

-- the fault of more data than the command asks for
abbrev pub excess : Option ℕ → AnswerFault
excess None = NotAsked
excess (Some n) = TooMany

-- the fault of a response with `came` bytes, if it is one
abbrev pub response_fault : ApduExchangeOf → ℕ → Option AnswerFault
response_fault ex came =
    if is_going ex.stage then
    (if nat_lt (may_bring ex.le) came then Some (excess ex.le)
    else (if nat_le (length ex.gather.bytes + came) ex.gather.limit then None else Some TooLong))
    else Some NotDue

-- the next command, with this response
abbrev pub answered_by : ApduExchangeOf → List ℕ → StatusWord → Pair
answered_by ex content status =
    record { command = command_of ex; content = content; status = status }

-- An exchange takes a response, or returns a fault.
pub record IsResponding (old : ApduExchangeOf) (content : List ℕ) (status : StatusWord)
    (result : Result (Unit {0}) AnswerFault) (new : ApduExchangeOf) : Type 0 where
  pub fault : MatchResult result (λ _. response_fault old (length content) ≡ None)
      (λ f. (response_fault old (length content) ≡ Some f)
      ⊎ ((f ≡ Stalled) × (response_fault old (length content) ≡ None)))
  pub few : HasFew new
  pub limit : new.gather.limit ≡ old.gather.limit
  pub unchanged : IfErr result (λ f. fails_with f ≡ false → new ≡ old)
  pub failed : IfErr result (λ f. fails_with f ≡ true → new.stage ≡ Failed)
  pub falls : OnOk result (to_go new < to_go old)
  pub led : (c : Command) (wanted : Wanted) (pairs : List Pair) → ComesTo c wanted pairs old
      → MatchResult result
      (λ _. ComesTo c wanted (pairs ++ answered_by old content status ∷ []) new)
      (λ f. fails_with f ≡ true
      → ComesTo c wanted (pairs ++ answered_by old content status ∷ []) new)

-- the exchange with these data of its command, this room and this mark
abbrev pub of_mark : List ℕ → Room → ApduMark → ApduExchangeOf
of_mark content gather mark = record {
  content = content;
  le = mark.le;
  gather = gather;
  attempt = mark.attempt;
  wanted = mark.wanted;
  stage = mark.stage;
}

-- the data of the next command: the same, or none
abbrev pub kept_data : Bool → List ℕ → List ℕ
kept_data keeps content = if keeps then content else []
