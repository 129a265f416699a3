-- Many characters through a buffer: one step for each.
use Rattle.std.specs.Prelude.{◌≡◌, ◌≤◌, ℕ, List, [], ◌∷◌, ◌++◌, length, take, drop, Some, None}
use Rattle.t0_core.specs.declared.end.End.TheVariants.{Terminal, Card}
use Rattle.t0_core.specs.declared.host_end.HostTurn.TheVariants.{Sends}
use Rattle.t0_core.specs.Dialogue.{Dialogue}
use Rattle.t0_core.specs.Front.{Front, GoesOn, Ends, brought}
use Rattle.t0_core.specs.HostSide.{Hosting, HostStandsAt, IsRequest, at_stage, turn_of, data_due, after_turn, fault_of, after_taking, data_in, gathered}
use Rattle.t0_core.specs.Room.{Room}

-- These bytes lead from a state to the last one, by one step each.
abbrev pub Steps : {State : Type 0} → (State → ℕ → State → Type 0) → State → List ℕ → State
    → Type 0
Steps Step s [] last = last ≡ s
Steps Step s (b ∷ bs) last = (next : _) × Step s b next × Steps Step next bs last

-- `count` bytes were written to the front of a buffer, by one step each. The rest of the buffer is
-- unchanged.
pub record HandsOut {State : Type 0} (Step : State → ℕ → State → Type 0) (old : State)
    (before after : List ℕ) (count : ℕ) (new : State) : Type 0 where
  pub fits : count ≤ length before
  pub steps : Steps Step old (take count after) new
  pub behind : drop count after ≡ drop count before

-- A terminal's end sends its next data character, as in its turn. A dialogue that the end opened
-- continues with it.
pub record IsDataTurn (old : Hosting) (byte : ℕ) (new : Hosting) : Type 0 where
  pub due : data_due old ≡ Some byte
  pub sends : turn_of old ≡ Sends byte
  pub after : new ≡ at_stage old (after_turn old)
  pub keeps : IsRequest new
  pub goes_on : (front : Front) → HostStandsAt old front
      → (next : Front) × GoesOn front (Terminal, byte) next × HostStandsAt new next

-- a terminal's end, and the buffer for the data that it receives
pub record Taker : Type 0 where
  pub host : Hosting
  pub room : Room

-- A terminal's end takes a data character of the card. The dialogue continues with it, and it is
-- gathered.
pub record IsDataTaken (old : Taker) (byte : ℕ) (new : Taker) : Type 0 where
  pub fault : fault_of old.host old.room byte ≡ None
  pub host : new.host ≡ at_stage old.host (after_taking old.host byte)
  pub room : new.room ≡ gathered old.room (byte ∷ [])
  pub fits : length new.room.bytes ≤ new.room.limit
  pub keeps : IsRequest new.host
  pub came : (front : Front) → HostStandsAt old.host front
      → (next : Front) × GoesOn front (Card, byte) next
  pub goes_on : (front next : Front) → HostStandsAt old.host front
      → GoesOn front (Card, byte) next
      → HostStandsAt new.host next × (brought next ≡ brought front ++ byte ∷ [])
  pub stays : (front : Front) (d : Dialogue) → HostStandsAt old.host front
      → Ends front (Card, byte) d → ⊥

-- a character that the end takes next is not data
abbrev pub TakesNoData : Taker → Type 0
TakesNoData t = (byte : ℕ) → fault_of t.host t.room byte ≡ None → data_in t.host.stage byte ≡ []
