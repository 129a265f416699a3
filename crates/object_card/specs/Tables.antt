-- The tables of a card: applications and their data objects (ISO/IEC 7816-4, data objects of an
-- application).
use Rattle.std.specs.Prelude.{◌≡◌, ◌≢◌, ℕ, ◌≤◌, List, [], ◌∷◌, length, map, Option, Some, None, Bool, true, false, nat_eq, if◌then◌else◌}
use Rattle.std.specs.Cmp.Lexicographic.{pointwise}
use Rattle.std.specs.List.{AllByRecursion}
use Rattle.tlv_core.specs.TagForm.{is_constructed}
use Rattle.tlv_core.specs.Spelling.{AreObjects}
use Rattle.tlv_core.specs.Address.{IsAddressable}
use Rattle.object_card.specs.declared.limits.TheConstants.{VALUE_LIMIT, ENTRY_LIMIT, APPLICATION_LIMIT}

-- A data object of an application: its tag, its value, and whether it is locked. No command changes
-- a locked one (profile).
pub record Entry : Type 0 where
  pub tag : List ℕ
  pub value : List ℕ
  pub locked : Bool

-- an application: its identifier (AID), and its data objects in the order in which their tags were
-- first stored
pub record Application : Type 0 where
  pub aid : List ℕ
  pub entries : List Entry

-- an application identifier has 5 to 16 bytes (ISO/IEC 7816-4, application identifier)
abbrev pub IsAid : List ℕ → Type 0
IsAid aid = (5 ≤ length aid) × (length aid ≤ 16)

-- the value of a constructed data object is a list of objects, one level below it (EMV Book 3,
-- Annex B)
abbrev pub IsValueOf : List ℕ → List ℕ → Type 0
IsValueOf tag value = is_constructed tag ≡ true → AreObjects value 2

abbrev pub same_bytes : List ℕ → List ℕ → Bool
same_bytes a b = pointwise nat_eq a b

-- the value under a tag
abbrev pub value_under : List ℕ → List Entry → Option (List ℕ)
value_under tag [] = None
value_under tag (e ∷ entries) =
    if same_bytes tag e.tag then Some e.value else value_under tag entries

-- whether there is an entry with this tag, and it is locked
abbrev pub is_locked : List ℕ → List Entry → Bool
is_locked tag [] = false
is_locked tag (e ∷ entries) = if same_bytes tag e.tag then e.locked else is_locked tag entries

-- The value under a tag is replaced in place, and stays locked or not. A new tag is appended, and
-- is not locked (profile).
abbrev pub with_value : List ℕ → List ℕ → List Entry → List Entry
with_value tag value [] = record { tag = tag; value = value; locked = false } ∷ []
with_value tag value (e ∷ entries) =
    if same_bytes tag e.tag then record e { value = value } ∷ entries
    else e ∷ with_value tag value entries

-- an entry with this tag, value and lock, in the place of the one with the tag, or at the end
abbrev pub with_entry : List ℕ → List ℕ → Bool → List Entry → List Entry
with_entry tag value locked [] = record { tag = tag; value = value; locked = locked } ∷ []
with_entry tag value locked (e ∷ entries) =
    if same_bytes tag e.tag then record e { value = value; locked = locked } ∷ entries
    else e ∷ with_entry tag value locked entries

-- the entries of the application with this identifier
abbrev pub entries_in : List ℕ → List Application → Option (List Entry)
entries_in aid [] = None
entries_in aid (a ∷ applications) =
    if same_bytes aid a.aid then Some a.entries else entries_in aid applications

-- the applications, with this value under the tag in the application with this identifier
abbrev pub with_object : List ℕ → List ℕ → List ℕ → List Application → List Application
with_object aid tag value [] = []
with_object aid tag value (a ∷ applications) =
    if same_bytes aid a.aid then record a { entries = with_value tag value a.entries }
    ∷ applications
    else a ∷ with_object aid tag value applications

-- no two are equal
abbrev pub AreDistinct : List (List ℕ) → Type 0
AreDistinct [] = Unit {0}
AreDistinct (x ∷ others) = AllByRecursion (λ y. x ≢ y) others × AreDistinct others

-- a tag that GET DATA and PUT DATA can name, and a value within the limit that suits it
pub record IsEntry (entry : Entry) : Type 0 where
  pub addressable : IsAddressable entry.tag
  pub within : length entry.value ≤ VALUE_LIMIT
  pub value_of_kind : IsValueOf entry.tag entry.value

-- an identifier, and data objects with distinct tags
pub record IsApplication (application : Application) : Type 0 where
  pub is_aid : IsAid application.aid
  pub are_entries : AllByRecursion IsEntry application.entries
  pub distinct_tags : AreDistinct (map (λ entry. entry.tag) application.entries)
  pub no_more : length application.entries ≤ ENTRY_LIMIT

-- the tables of a card: applications with distinct identifiers
pub record AreApplications (applications : List Application) : Type 0 where
  pub all_sound : AllByRecursion IsApplication applications
  pub distinct_aids : AreDistinct (map (λ application. application.aid) applications)
  pub no_more : length applications ≤ APPLICATION_LIMIT
