-- The card that carries out a whole operation in one step (ISO/IEC 7816-4, SELECT, GET DATA and PUT
-- DATA).
use Rattle.std.specs.Prelude.{◌≡◌, ◌≢◌, ℕ, ◌<◌, ◌≤◌, List, [], ◌∷◌, length, Some, None, ◌⊎◌, Bool, true, false, is_some}
use Rattle.apdu_core.specs.StatusWord.{StatusWord, ok}
use Rattle.apdu_core.specs.Shared.{Reply, reply}
use Rattle.tlv_core.specs.Spelling.{object_bytes}
use Rattle.object_card.specs.declared.limits.TheConstants.{VALUE_LIMIT, ENTRY_LIMIT}
use Rattle.object_card.specs.Tables.{Entry, IsValueOf, is_locked, value_under, entries_in, with_object}
use Rattle.object_card.specs.State.{CardState, selected_entries, with_selected}

-- a SELECT, GET DATA or PUT DATA with all its data
pub data Operation : Type 0 where
  Select : (aid : List ℕ) → Operation
  Get : (tag : List ℕ) → Operation
  Put : (tag value : List ℕ) → Operation

abbrev pub is_selection : Operation → Bool
is_selection (Select aid) = true
is_selection (Get tag) = false
is_selection (Put tag value) = false

-- The file control information of an application: 6F, which contains 84, which contains the
-- identifier (ISO/IEC 7816-4, file control information). That it contains nothing else is this
-- project's profile.
abbrev pub control_information : List ℕ → List ℕ
control_information aid = object_bytes (0x6F ∷ []) (object_bytes (0x84 ∷ []) aid)

-- the state with this value in the application, as a PUT DATA leaves it
abbrev pub with_put : CardState → List ℕ → List ℕ → List ℕ → CardState
with_put state aid tag value =
    record state { applications = with_object aid tag value state.applications }

-- The status of a put among these entries: the first that holds of a locked entry, a wrong length,
-- wrong data, and no space for a new tag. The order, the lock and the limits are this project's
-- profile.
pub data PutStatus (entries : List Entry) (tag value : List ℕ) : StatusWord → Type 0 where
  not_allowed : is_locked tag entries ≡ true → PutStatus entries tag value (0x69, 0x82)
  wrong_length : is_locked tag entries ≡ false → VALUE_LIMIT < length value
      → PutStatus entries tag value (0x67, 0x00)
  wrong_data : is_locked tag entries ≡ false → length value ≤ VALUE_LIMIT
      → (IsValueOf tag value → ⊥)
      → PutStatus entries tag value (0x6A, 0x80)
  no_space : is_locked tag entries ≡ false → length value ≤ VALUE_LIMIT → IsValueOf tag value
      → value_under tag entries ≡ None → ENTRY_LIMIT ≤ length entries
      → PutStatus entries tag value (0x6A, 0x84)
  stored : is_locked tag entries ≡ false → length value ≤ VALUE_LIMIT → IsValueOf tag value
      → (is_some (value_under tag entries) ≡ true) ⊎ (length entries < ENTRY_LIMIT)
      → PutStatus entries tag value ok

-- The reply to an operation, and the state after it. What is pending has no effect. Memory can run
-- out (6581) only for a value that would be stored; the card is then unchanged.
pub data Answers (old : CardState) : Operation → Reply → CardState → Type 0 where
  selects : (aid : List ℕ) → is_some (entries_in aid old.applications) ≡ true
      → Answers old (Select aid) (record { status = ok; content = control_information aid })
      (with_selected old aid)
  finds_no_application : (aid : List ℕ) → entries_in aid old.applications ≡ None
      → Answers old (Select aid) (reply (0x6A, 0x82)) old
  none_selected : (operation : Operation) → is_selection operation ≡ false
      → selected_entries old ≡ None
      → Answers old operation (reply (0x69, 0x85)) old
  finds_no_object : (tag : List ℕ) (entries : List Entry) → selected_entries old ≡ Some entries
      → value_under tag entries ≡ None
      → Answers old (Get tag) (reply (0x6A, 0x88)) old
  gives : (tag value : List ℕ) (entries : List Entry) → selected_entries old ≡ Some entries
      → value_under tag entries ≡ Some value
      → Answers old (Get tag) (record { status = ok; content = object_bytes tag value }) old
  stores : (tag value aid : List ℕ) (entries : List Entry) → old.selected ≡ Some aid
      → entries_in aid old.applications ≡ Some entries
      → PutStatus entries tag value ok
      → Answers old (Put tag value) (reply ok) (with_put old aid tag value)
  does_not_store : (tag value : List ℕ) (entries : List Entry) (status : StatusWord)
      → selected_entries old ≡ Some entries
      → status ≢ ok → PutStatus entries tag value status
      → Answers old (Put tag value) (reply status) old
  wants_memory : (tag value : List ℕ) (entries : List Entry) → selected_entries old ≡ Some entries
      → PutStatus entries tag value ok → Answers old (Put tag value) (reply (0x65, 0x81)) old

-- the same applications, and the same selection
abbrev pub SameTables : CardState → CardState → Type 0
SameTables a b = (a.applications ≡ b.applications) × (a.selected ≡ b.selected)

-- operations one after another, one step each
abbrev pub AnswersAll : CardState → List Operation → List Reply → CardState → Type 0
AnswersAll old [] [] new = SameTables old new
AnswersAll old [] (r ∷ replies) new = ⊥
AnswersAll old (o ∷ operations) [] new = ⊥
AnswersAll old (o ∷ operations) (r ∷ replies) new = (mid : CardState) × Answers old o r mid
    × AnswersAll mid operations replies new
