-- How a value is put: when, in which place, and the status.
use Rattle.std.specs.Prelude.{◌≡◌, ◌≢◌, ℕ, ◌≤◌, ◌<◌, List, length, Option, Some, None, false, ◌⊎◌, slice_get, slice_set}
use Rattle.apdu_core.specs.declared.header.Header.{Header}
use Rattle.apdu_core.specs.Chaining.{ChainState}
use Rattle.apdu_core.specs.StatusWord.{StatusWord, ok}
use Rattle.t0_core.specs.Meaning.{Decides, taken_with}
use Rattle.object_card.specs.declared.limits.TheConstants.{VALUE_LIMIT}
use Rattle.object_card.specs.declared.response.Response.{Response}
use Rattle.object_card.specs.declared.ready.Ready.{Ready}
use Rattle.object_card.specs.declared.ready.Ready.TheVariants as ready
use Rattle.object_card.specs.Tables.{Entry, is_locked, with_entry}
use Rattle.object_card.specs.Refusals.{named_tag}
use Rattle.object_card.specs.CardFields.{ApplicationView, HasPlace, state_of}
use Rattle.object_card.specs.CardView.{NewValue, IsCard, prepared_of, standing_chain}
use Rattle.object_card.specs.OneStep.{PutStatus}
use Rattle.object_card.specs.CardMeaning.{Does}

-- the status of a refusal, or 6581 for a value that would be stored
abbrev pub DoesNotStore : List Entry → List ℕ → List ℕ → StatusWord → Type 0
DoesNotStore entries tag value status =
    ((status ≢ ok) × PutStatus entries tag value status)
    ⊎ ((status ≡ (0x65, 0x81)) × PutStatus entries tag value ok)

-- the application at this place exists, the header names a tag that is not locked in it, and the
-- value keeps to the limit
abbrev pub CanPut : List ApplicationView → ℕ → Header → List ℕ → Type 0
CanPut held selected h value = (a : ApplicationView) × (tag : List ℕ)
    × (slice_get held selected ≡ Some a) × (named_tag h.p1 h.p2 ≡ Some tag)
    × (is_locked tag a.entries ≡ false) × (length value ≤ VALUE_LIMIT)

-- The application at this place is the same except for its allocated places. The value is ready to
-- be stored, or the status says why not.
abbrev pub IsPut : List ApplicationView → ℕ → Header → List ℕ → List ApplicationView → StatusWord
    → Ready → Option NewValue → Type 0
IsPut held selected h value new status next put = (a b : ApplicationView) × (tag : List ℕ)
    × (slice_get held selected ≡ Some a)
    × (named_tag h.p1 h.p2 ≡ Some tag) × (slice_get new selected ≡ Some b) × (b.aid ≡ a.aid)
    × (b.entries ≡ a.entries)
    × (new ≡ slice_set held selected b)
    × (((next ≡ ready.Stores) × (put ≡ Some (tag, value)) × (status ≡ ok) × HasPlace b tag
    × PutStatus a.entries tag value ok)
    ⊎ ((next ≡ ready.Leaves None) × (put ≡ None) × DoesNotStore a.entries tag value status))

-- there is a place for the value to put, if there is one
abbrev pub CanBeStored : List ApplicationView → Option ℕ → Option NewValue → Type 0
CanBeStored held selected None = Unit {0}
CanBeStored held None (Some value) = ⊥
CanBeStored held (Some i) (Some value) = (a : ApplicationView) × (slice_get held i ≡ Some a)
    × (i < length held) × HasPlace a value.0

-- the value is in the place of its tag, or at the end
abbrev pub IsStored : List ApplicationView → Option ℕ → Option NewValue → List ApplicationView
    → Type 0
IsStored held selected None new = new ≡ held
IsStored held None (Some value) new = ⊥
IsStored held (Some i) (Some value) new = (a b : ApplicationView) × (slice_get held i ≡ Some a)
    × (slice_get new i ≡ Some b) × (b.aid ≡ a.aid)
    × (b.entries ≡ with_entry value.0 value.1 false a.entries) × (new ≡ slice_set held i b)

-- The data of a PUT DATA are taken, with this status. What is prepared suits the fields, and the
-- state in effect is unchanged.
pub record TakesPut (held new : List ApplicationView) (selected : Option ℕ) (old chain : ChainState)
    (response : Option Response) (h : Header) (cut : ℕ) (content : List ℕ) (status : StatusWord)
    (next : Ready) (put : Option NewValue) : Type 0 where
  pub decided : Decides Does (state_of held selected old response) cut
      (taken_with (record { header = h; p3 = length content; cut = cut }) content status)
      (prepared_of new selected chain response next put)
  pub fits : IsCard new selected chain response next put
  pub keeps : state_of new selected (standing_chain chain next) response
      ≡ state_of held selected old response
