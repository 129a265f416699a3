-- A put of a value among some entries has one status.
use Rattle.std.proofs.Common.{◌≡◌, ◌<◌, ◌≤◌, ℕ, List, length, true, false, ◌⊎◌, inl, inr, refl, ap, arith, Bool}
use Rattle.std.specs.Prelude.{is_some}
use Rattle.apdu_core.specs.StatusWord.{StatusWord, ok}
use Rattle.object_card.specs.declared.limits.TheConstants.{ENTRY_LIMIT, VALUE_LIMIT}
use Rattle.object_card.specs.Tables.{Entry, value_under, is_locked, IsValueOf}
use Rattle.object_card.specs.OneStep.{PutStatus, not_allowed, wrong_length, wrong_data, no_space, stored}

-- the first reason that holds, with the tests before it that fail
abbrev IsFirst : (locked held : Bool) (size count : ℕ) (Kind : Type 0) → StatusWord → Type 0
IsFirst locked held size count Kind s = ((locked ≡ true) × (s ≡ (0x69, 0x82)))
    ⊎ ((locked ≡ false) × (((VALUE_LIMIT < size) × (s ≡ (0x67, 0x00)))
    ⊎ ((size ≤ VALUE_LIMIT) × (((Kind → ⊥) × (s ≡ (0x6A, 0x80)))
    ⊎ (Kind × (((held ≡ false) × (ENTRY_LIMIT ≤ count) × (s ≡ (0x6A, 0x84)))
    ⊎ (((held ≡ true) ⊎ (count < ENTRY_LIMIT)) × (s ≡ ok))))))))

one_first : (locked held : Bool) (size count : ℕ) (Kind : Type 0) (s t : StatusWord)
    → IsFirst locked held size count Kind s → IsFirst locked held size count Kind t → s ≡ t
one_first locked held size count Kind s t p q = grind arith

is_first : (entries : List Entry) (tag value : List ℕ) (s : StatusWord)
    → PutStatus entries tag value s → IsFirst (is_locked tag entries)
    (is_some (value_under tag entries)) (length value) (length entries) (IsValueOf tag value) s
is_first entries tag value s (not_allowed locked) = inl (locked, refl)
is_first entries tag value s (wrong_length free long) = inr (free, inl (long, refl))
is_first entries tag value s (wrong_data free fits unlike) =
    inr (free, inr (fits, inl (unlike, refl)))
is_first entries tag value s (no_space free fits kind new full) =
    inr (free, inr (fits, inr (kind, inl (ap is_some new, full, refl))))
is_first entries tag value s (stored free fits kind room) =
    inr (free, inr (fits, inr (kind, inr (room, refl))))

pub one_status : (entries : List Entry) (tag value : List ℕ) (s t : StatusWord)
    → PutStatus entries tag value s → PutStatus entries tag value t → s ≡ t
one_status entries tag value s t p q =
    one_first (is_locked tag entries) (is_some (value_under tag entries)) (length value)
    (length entries) (IsValueOf tag value) s t (is_first entries tag value s p)
    (is_first entries tag value t q)
