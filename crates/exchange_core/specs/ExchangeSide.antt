-- The state of an exchange: which dialogues have ended, and which is in progress.
use Rattle.std.specs.Prelude.{◌≡◌, ℕ, ◌+◌, ◌*◌, ◌<◌, ◌≤◌, List, [], ◌∷◌, ◌++◌, length, Option, Some, None, is_some, Bool, true, false, ◌⊎◌, if◌then◌else◌}
use Rattle.std.specs.List.{AllByRecursion, flat_map}
use Rattle.apdu_core.specs.declared.header.Header.{Header}
use Rattle.apdu_core.specs.StatusWord.{StatusWord, count}
use Rattle.apdu_core.specs.CommandBytes.{Command}
use Rattle.t0_core.specs.declared.direction.Direction.{Direction}
use Rattle.t0_core.specs.declared.direction.Direction.TheVariants.{ToCard, FromCard}
use Rattle.t0_core.specs.declared.host_end.HostTurn.{HostTurn}
use Rattle.t0_core.specs.declared.host_end.HostTurn.TheVariants.{Done, Failed}
use Rattle.t0_core.specs.declared.line_fault.LineFault.{LineFault}
use Rattle.t0_core.specs.declared.line_fault.LineFault.TheVariants.{BadProcedure, AfterEnd, TooLong, Stalled, NotListening}
use Rattle.t0_core.specs.declared.data_sent.DataSent.{DataSent}
use Rattle.t0_core.specs.DataSent.{both, sent_in_all, IsKnown, Tells}
use Rattle.t0_core.specs.Dialogue.{Dialogue, IsDialogue}
use Rattle.t0_core.specs.Meaning.{received}
use Rattle.t0_core.specs.Front.{Front, IsFront, brought, fresh}
use Rattle.t0_core.specs.Room.{Room}
use Rattle.t0_core.specs.HostSide.{Hosting, HostStandsAt, IsRequest, turn_of, data_sent}
use Rattle.exchange_core.specs.declared.wanted.Wanted.{Wanted}
use Rattle.exchange_core.specs.declared.attempt.Attempt.{Attempt}
use Rattle.apdu_core.specs.declared.shared.TheConstants.{RESPONSE_LIMIT}
use Rattle.exchange_core.specs.Attempts.{IsCounted}
use Rattle.apdu_core.specs.Shared.{get_response}
use Rattle.exchange_core.specs.Gathered.{wanted_by, after_unit, fetched_after, repeated_with, Opening, By_command, By_fetch, OpensWith, UnitOf, Single, Repeated, last_of, dialogues_of, unit_data, AreFollowed, IsOpenExchange, Gathers}

-- the view of an exchange: the end of the current TPDU, the data so far, the place of the TPDU in
-- the exchange, what the command wants, and whether the exchange has stalled
pub record ExchangeOf : Type 0 where
  pub host : Hosting
  pub gather : Room
  pub attempt : Attempt
  pub wanted : Wanted
  pub stalled : Bool

-- the end opens a TPDU with this header that asks for `n` bytes
pub record HostAsks (header : Header) (n : ℕ) (host : Hosting) : Type 0 where
  pub header_is : host.header ≡ header
  pub from_card : host.direction ≡ FromCard
  pub counts : count host.p3 ≡ n
  pub is_byte : host.p3 < 256

-- the end opens a TPDU with this header that sends these bytes
pub record HostSends (header : Header) (content : List ℕ) (host : Hosting) : Type 0 where
  pub header_is : host.header ≡ header
  pub to_card : host.direction ≡ ToCard
  pub counts : host.p3 ≡ length content
  pub has : host.content ≡ content

abbrev pub HostOpensBy : Header → List ℕ → Option ℕ → Hosting → Type 0
HostOpensBy h [] None host = HostSends h [] host
HostOpensBy h [] (Some n) host = HostAsks h n host
HostOpensBy h (b ∷ bs) le host = HostSends h (b ∷ bs) host

abbrev pub HostOpens : Opening → Hosting → Type 0
HostOpens (By_command c) host = HostOpensBy c.header c.content c.le host
HostOpens (By_fetch n) host = HostAsks get_response n host

-- The current TPDU opens a unit. Or it repeats the first dialogue of a unit, with the count of
-- 6CXX.
abbrev pub IsOpenedAs : Opening → Wanted → Option Dialogue → Hosting → Type 0
IsOpenedAs opening left None host = HostOpens opening host
IsOpenedAs opening left (Some d) host = OpensWith opening d × (n : ℕ)
    × (repeated_with left d ≡ Some n) × HostAsks d.body.header n host

-- the first dialogue of the current unit, if that has ended
abbrev pub begun_with : Option Dialogue → List Dialogue
begun_with None = []
begun_with (Some d) = d ∷ []

-- the dialogues that have ended
abbrev pub so_far : List UnitOf → Option Dialogue → List Dialogue
so_far units first = flat_map dialogues_of units ++ begun_with first

-- the current unit, once its last dialogue has ended
abbrev pub ended_with : Option Dialogue → Dialogue → UnitOf
ended_with None d = Single d
ended_with (Some e) d = Repeated e d

abbrev pub asks_card : Direction → Bool
asks_card ToCard = false
asks_card FromCard = true

abbrev pub is_fetch : Opening → Bool
is_fetch (By_command c) = false
is_fetch (By_fetch n) = true

-- this `Attempt` is the place of the current TPDU
pub record IsPlaceOf (a : Attempt) (opening : Opening) (units : List UnitOf)
    (first : Option Dialogue) (host : Hosting) : Type 0 where
  pub header_is : a.header ≡ host.header
  pub asks_is : a.asks ≡ asks_card host.direction
  pub fetches_is : a.fetches ≡ is_fetch opening
  pub repeats_is : a.repeats ≡ is_some first
  pub before_is : a.before ≡ length (flat_map unit_data units)
  pub number_is : a.number ≡ length (so_far units first) + 1
  pub sent_is : Tells a.sent (sent_in_all (so_far units first))

-- the most bytes of any response: no exchange has more room
abbrev pub response_limit : ℕ
response_limit = RESPONSE_LIMIT

-- The exchange is in progress: these units have ended, and the first dialogue of the next if it is
-- repeated. The current TPDU is at this front.
pub record UnderWay (c : Command) (ex : ExchangeOf) (units : List UnitOf)
    (first : Option Dialogue) (front : Front) : Type 0 where
  pub opening : Opening
  pub left : Wanted
  pub followed : AreFollowed (By_command c) (wanted_by c.le) units opening left
  pub are_dialogues : AllByRecursion IsDialogue (so_far units first)
  pub opened_as : IsOpenedAs opening left first ex.host
  pub place : IsPlaceOf ex.attempt opening units first ex.host
  pub stands : HostStandsAt ex.host front
  pub request : IsRequest ex.host
  pub is_front : IsFront front
  pub gathered : ex.gather.bytes ≡ flat_map received (so_far units first) ++ brought front
  pub wanted_is : ex.wanted ≡ wanted_by c.le
  pub going : ex.stalled ≡ false

-- whether the TPDUs of the exchange have sent all their data
abbrev pub exchange_sent : ExchangeOf → DataSent
exchange_sent ex = both ex.attempt.sent (data_sent ex.host)

-- all TPDUs so far went character by character, and no error has ended the last
abbrev pub GoesByCharacters : ExchangeOf → Type 0
GoesByCharacters ex = IsKnown ex.attempt.sent × IsKnown (data_sent ex.host)

-- the exchange has ended: these are its units, and it has their data and their status
pub record IsOver (c : Command) (ex : ExchangeOf) (units : List UnitOf)
    (status : StatusWord) : Type 0 where
  pub gathers : Gathers c units ex.gather.bytes status
  pub are_dialogues : AllByRecursion IsDialogue (flat_map dialogues_of units)
  pub done : turn_of ex.host ≡ Done status
  pub sent_is : Tells (exchange_sent ex) (sent_in_all (flat_map dialogues_of units))
  pub going : ex.stalled ≡ false

-- the exchange of these units has stalled: the last is a fetch that brought nothing, and the card
-- announces more (profile)
pub record Stall (c : Command) (units : List UnitOf) : Type 0 where
  pub is_open : IsOpenExchange c units
  pub asked : ℕ
  pub more : ℕ
  pub is_fetch : is_open.opening ≡ By_fetch asked
  pub brought_none : unit_data is_open.last ≡ []
  pub announces : fetched_after (after_unit is_open.left is_open.last)
      (last_of is_open.last).status ≡ Some more

-- what the exchange does next
abbrev pub exchange_turn : ExchangeOf → HostTurn
exchange_turn ex = if ex.stalled then Failed else turn_of ex.host

-- The data fit the room. With r bytes gathered, at most 2(r + 2) TPDUs have begun.
pub record IsBounded (ex : ExchangeOf) : Type 0 where
  pub room : ex.gather.limit ≤ response_limit
  pub fits : length ex.gather.bytes ≤ ex.gather.limit
  pub tpdus : ex.attempt.number ≤ 2 * (length ex.gather.bytes + 2)

-- the invariant of an exchange
pub record IsKept (ex : ExchangeOf) : Type 0 where
  pub counted : IsCounted ex.attempt (length ex.gather.bytes)
  pub room : ex.gather.limit ≤ response_limit
  pub fits : length ex.gather.bytes ≤ ex.gather.limit
  pub stalled_at_end : ex.stalled ≡ true → (status : StatusWord) × (turn_of ex.host ≡ Done status)

-- the faults that end an exchange for good; the others change nothing
abbrev pub is_final : LineFault → Bool
is_final (BadProcedure byte) = true
is_final AfterEnd = false
is_final TooLong = true
is_final Stalled = true
is_final NotListening = false

-- the exchange has ended or failed
abbrev pub IsAtEnd : ExchangeOf → Type 0
IsAtEnd ex = (exchange_turn ex ≡ Failed)
    ⊎ ((status : StatusWord) × (exchange_turn ex ≡ Done status))

-- after a dialogue it is repeated, or more is fetched, or the exchange has ended
abbrev pub Continues : Command → ExchangeOf → List UnitOf → Option Dialogue → Dialogue → Type 0
Continues c ex units first d =
    ((first ≡ None) × UnderWay c ex units (Some d) fresh)
    ⊎ UnderWay c ex (units ++ ended_with first d ∷ []) None fresh
    ⊎ IsOver c ex (units ++ ended_with first d ∷ []) d.status
