-- What the calls write of a card's tables.
use Rattle.std.specs.Prelude.{◌≡◌, ℕ, ℤ, List, length, Option, Some, None, MatchOption, pos, if◌then◌else◌, slice_get}
use Rattle.std.specs.Option.{option_map}
use Rattle.object_card.specs.Tables.{Entry}
use Rattle.object_card.specs.State.{CardState, entry_at}
use Rattle.card_c.specs.declared.card_side.CardSide.{CardSide}
use Rattle.card_c.specs.declared.card_side.CardSide.TheVariants.{Building, Standing, Joined, AtT1, Own, OwnAtT1}
use Rattle.card_c.specs.Codes.{gt_state, gt_not_found}
use Rattle.card_c.specs.Copying.{IsCopied}
use Rattle.card_c.specs.TagNumbers.{IsNumbered}

-- the state of a card of data objects, once it is built
abbrev pub state_in : CardSide → Option CardState
state_in (Building applications) = None
state_in (Standing end plans) = Some end.card.state
state_in (AtT1 at) = Some at.end.card.card.state
state_in (Joined session) = Some session.session.state
state_in (Own own) = None
state_in (OwnAtT1 at) = None

-- these bytes, if there are any, and if they fit
abbrev pub TellsBytes : Option (List ℕ) → List ℕ → ℕ → ℤ → List ℕ → ℕ → Type 0
TellsBytes None room len code room' len' = (code ≡ gt_not_found) × (room' ≡ room) × (len' ≡ len)
TellsBytes (Some bytes) room len code room' len' =
    (len' ≡ length bytes) × IsCopied bytes room code room'

-- this identifier of a card that is built
abbrev pub TellsAid : (CardState → Option (List ℕ)) → List ℕ → ℕ → List ℕ → ℕ → CardSide → ℤ
    → Type 0
TellsAid aid_of room len room' len' side code =
    MatchOption (state_in side) ((code ≡ gt_state) × (room' ≡ room) × (len' ≡ len))
    (λ state. TellsBytes (aid_of state) room len code room' len')

abbrev pub aid_at : ℕ → CardState → Option (List ℕ)
aid_at place state = option_map (λ a. a.aid) (slice_get state.applications place)

-- this data object, if there is one: its tag, whether it is locked (1 or 0), and its value if it
-- fits
abbrev pub TellsEntry : Option Entry → ℕ → ℤ → List ℕ → ℕ → ℤ → ℕ → ℤ → List ℕ → ℕ → Type 0
TellsEntry None tag locked room len code tag' locked' room' len' =
    (code ≡ gt_not_found) × (tag' ≡ tag) × (locked' ≡ locked) × (room' ≡ room) × (len' ≡ len)
TellsEntry (Some entry) tag locked room len code tag' locked' room' len' =
    IsNumbered tag' entry.tag × (locked' ≡ (if entry.locked then pos 1 else pos 0))
    × (len' ≡ length entry.value) × IsCopied entry.value room code room'

-- the data object at a place of the application at a place of a card that is built
abbrev pub TellsEntryAt : ℕ → ℕ → ℕ → ℤ → List ℕ → ℕ → ℕ → ℤ → List ℕ → ℕ → CardSide → ℤ → Type 0
TellsEntryAt app place tag locked room len tag' locked' room' len' side code =
    MatchOption (state_in side)
    ((code ≡ gt_state) × (tag' ≡ tag) × (locked' ≡ locked) × (room' ≡ room) × (len' ≡ len))
    (λ state. TellsEntry (entry_at app place state) tag locked room len code
    tag' locked' room' len')
