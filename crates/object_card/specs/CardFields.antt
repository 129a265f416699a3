-- How contracts see the fields of the code.
use Rattle.std.specs.Prelude.{◌≡◌, ◌⊎◌, ℕ, ◌≤◌, ◌<◌, List, [], ◌++◌, length, take, drop, map, Option, Some, None, true, is_some, IfSome, slice_get, unwrap_or, option_map}
use Rattle.apdu_core.specs.Chaining.{ChainState}
use Rattle.apdu_core.specs.declared.header.Header.{Header}
use Rattle.object_card.specs.Tables.{Entry, Application, value_under}
use Rattle.object_card.specs.State.{CardState, Pending, NothingPending, ChainPending, ResponsePending}
use Rattle.object_card.specs.declared.response.Response.{Response}

-- an application, and the number of data objects that it can add without allocating
pub record ApplicationView : Type 0 where
  pub aid : List ℕ
  pub entries : List Entry
  pub room : ℕ

-- a data object with this tag can be stored without allocating
abbrev pub HasPlace : ApplicationView → List ℕ → Type 0
HasPlace a tag = (is_some (value_under tag a.entries) ≡ true) ⊎ (0 < a.room)

abbrev pub applications_of : List ApplicationView → List Application
applications_of held = map (λ a. record { aid = a.aid; entries = a.entries }) held

-- the application at this place, if any
abbrev pub held_at : List ApplicationView → Option ℕ → Option ApplicationView
held_at held None = None
held_at held (Some place) = slice_get held place

abbrev pub aid_at : List ApplicationView → Option ℕ → Option (List ℕ)
aid_at held place = option_map (λ a. a.aid) (held_at held place)

abbrev pub entries_at : List ApplicationView → Option ℕ → List Entry
entries_at held place = unwrap_or (option_map (λ a. a.entries) (held_at held place)) []

-- the value at this place, or no bytes
abbrev pub value_at : List Entry → Option ℕ → List ℕ
value_at entries None = []
value_at entries (Some place) = unwrap_or (option_map (λ e. e.value) (slice_get entries place)) []

-- a whole response
abbrev pub whole_of : List Entry → Response → List ℕ
whole_of entries r = take r.len r.front ++ value_at entries r.value

abbrev pub left_of : List Entry → Response → List ℕ
left_of entries r = drop r.sent (whole_of entries r)

-- It keeps to its buffer, its value is present, and no more is sent than it contains.
pub record IsResponse (entries : List Entry) (r : Response) : Type 0 where
  pub room : length r.front ≡ 20
  pub within : r.len ≤ 20
  pub is_held : IfSome r.value (λ place. place < length entries)
  pub begun : r.sent ≤ length (whole_of entries r)

-- a response before its first byte: the bytes before its value, and the place of that value, if any
pub record IsWhole (r : Response) (front : List ℕ) (value : Option ℕ) : Type 0 where
  pub front_is : take r.len r.front ≡ front
  pub value_is : r.value ≡ value
  pub unsent : r.sent ≡ 0
  pub room : length r.front ≡ 20
  pub within : r.len ≤ 20

-- the pending chain, if any
abbrev pub chain_pending : Option Header → List ℕ → Pending
chain_pending None bytes = NothingPending
chain_pending (Some h) bytes = ChainPending h.p1 h.p2 bytes

abbrev pub pending_in : List Entry → ChainState → Option Response → Pending
pending_in entries chain None = chain_pending chain.pending chain.bytes
pending_in entries chain (Some r) = ResponsePending (left_of entries r)

abbrev pub state_of : List ApplicationView → Option ℕ → ChainState → Option Response → CardState
state_of held selected chain response = record {
  applications = applications_of held;
  selected = aid_at held selected;
  pending = pending_in (entries_at held selected) chain response;
}
