-- The state of a card: its tables, the selection, and what a later command may continue.
use Rattle.std.specs.Prelude.{◌≡◌, ◌≢◌, ℕ, ◌+◌, ◌≤◌, List, [], ◌∷◌, length, Option, Some, None, IsSome, IfSome, Bool, true, false, is_some, option_and_then, slice_get}
use Rattle.object_card.specs.declared.limits.TheConstants.{VALUE_LIMIT, HEAD_LIMIT}
use Rattle.object_card.specs.Tables.{Application, Entry, AreApplications, entries_in}

-- What is pending: nothing; a chain of PUT DATA, with its P1-P2 and the bytes so far (ISO/IEC
-- 7816-4, 5.1.1.1); or a response, with the bytes that are left (ISO/IEC 7816-4, GET RESPONSE).
pub data Pending : Type 0 where
  NothingPending : Pending
  ChainPending : (p1 p2 : ℕ) (bytes : List ℕ) → Pending
  ResponsePending : (left : List ℕ) → Pending

-- the applications, the identifier of the selected one, if any, and what is pending
pub record CardState : Type 0 where
  pub applications : List Application
  pub selected : Option (List ℕ)
  pub pending : Pending

-- A chain is pending only if an application is selected, and keeps to the limit of a value; it may
-- be empty. A pending response has at least one byte, and at most a value with its tag and length.
abbrev pub IsPending : Option (List ℕ) → Pending → Type 0
IsPending selected NothingPending = Unit {0}
IsPending selected (ChainPending p1 p2 bytes) = IsSome selected × (length bytes ≤ VALUE_LIMIT)
IsPending selected (ResponsePending left) = (left ≢ []) × (length left ≤ VALUE_LIMIT + HEAD_LIMIT)

-- the selected application exists
pub record IsCardState (state : CardState) : Type 0 where
  pub are_applications : AreApplications state.applications
  pub selected_is_held : IfSome state.selected
      (λ aid. is_some (entries_in aid state.applications) ≡ true)
  pub is_pending : IsPending state.selected state.pending

-- no chain is pending
abbrev pub is_idle : Pending → Bool
is_idle NothingPending = true
is_idle (ChainPending p1 p2 bytes) = false
is_idle (ResponsePending left) = true

-- the bytes of the pending chain
abbrev pub chained : Pending → List ℕ
chained NothingPending = []
chained (ChainPending p1 p2 bytes) = bytes
chained (ResponsePending left) = []

-- the bytes left of the pending response
abbrev pub waiting : Pending → List ℕ
waiting NothingPending = []
waiting (ChainPending p1 p2 bytes) = []
waiting (ResponsePending left) = left

-- a response is pending if some of it is left
abbrev pub pending_of : List ℕ → Pending
pending_of [] = NothingPending
pending_of (b ∷ left) = ResponsePending (b ∷ left)

abbrev pub with_pending : CardState → Pending → CardState
with_pending state pending = record state { pending = pending }

abbrev pub with_selected : CardState → List ℕ → CardState
with_selected state aid = record state { selected = Some aid }

-- the entries of the selected application
abbrev pub selected_entries : CardState → Option (List Entry)
selected_entries state = option_and_then (λ aid. entries_in aid state.applications) state.selected

-- nothing is selected, and nothing is pending
abbrev pub IsFresh : CardState → Type 0
IsFresh state = (state.selected ≡ None) × (state.pending ≡ NothingPending)

-- A reset keeps the tables; nothing is selected, and nothing is pending (profile).
abbrev pub after_reset : CardState → CardState
after_reset state = record {
  applications = state.applications;
  selected = None;
  pending = NothingPending;
}

-- the entry at index `place` of the application at index `app`, both from 0
abbrev pub entry_at : ℕ → ℕ → CardState → Option Entry
entry_at app place state = option_and_then (λ a. slice_get a.entries place)
    (slice_get state.applications app)
