-- How a card is built (profile): applications one after another, and data objects in the last of
-- them.
use Rattle.std.specs.Prelude.{◌≡◌, ◌⊎◌, ℕ, ◌<◌, ◌≤◌, List, [], ◌∷◌, ◌++◌, length, Option, Some, None, Bool, true, is_some, MatchOption, codes}
use Rattle.t0_core.specs.Meaning.{Nothing}
use Rattle.object_card.specs.declared.limits.TheConstants.{VALUE_LIMIT, ENTRY_LIMIT, APPLICATION_LIMIT}
use Rattle.object_card.specs.declared.builder_fault.BuilderFault.{BuilderFault}
use Rattle.object_card.specs.declared.builder_fault.BuilderFault.TheVariants.{Twice, TooManyApps, NoApp, ValueTooLong, NotObjects, Full, OutOfMemory}
use Rattle.object_card.specs.Tables.{Application, Entry, IsValueOf, value_under, with_entry, entries_in}
use Rattle.object_card.specs.State.{NothingPending}
use Rattle.object_card.specs.CardView.{CardView}

-- the application added last
abbrev pub last_added : List Application → Option Application
last_added [] = None
last_added (a ∷ []) = Some a
last_added (a ∷ b ∷ applications) = last_added (b ∷ applications)

-- one more application, without data objects
abbrev pub with_application : List ℕ → List Application → List Application
with_application aid applications = applications ++ record { aid = aid; entries = [] } ∷ []

-- the applications with this entry in the last of them: in the place of the entry with its tag, or
-- at the end
abbrev pub with_last_entry : List ℕ → List ℕ → Bool → List Application → List Application
with_last_entry tag value locked [] = []
with_last_entry tag value locked (a ∷ []) =
    record a { entries = with_entry tag value locked a.entries } ∷ []
with_last_entry tag value locked (a ∷ b ∷ applications) =
    a ∷ with_last_entry tag value locked (b ∷ applications)

-- an application can be added: no application before it has its identifier, and there are fewer
-- than the limit
abbrev pub TakesApplication : List ℕ → List Application → Type 0
TakesApplication aid applications = (entries_in aid applications ≡ None)
    × (length applications < APPLICATION_LIMIT)

-- Why an application is not added. `OutOfMemory` comes only if the application could be added.
abbrev pub RefusesApplication : List ℕ → List Application → BuilderFault → Type 0
RefusesApplication aid applications Twice = is_some (entries_in aid applications) ≡ true
RefusesApplication aid applications TooManyApps =
    (entries_in aid applications ≡ None) × (APPLICATION_LIMIT ≤ length applications)
RefusesApplication aid applications OutOfMemory = TakesApplication aid applications
RefusesApplication _ _ _ = ⊥

-- an entry with this tag and value can be added: the value keeps to the limit and suits the tag,
-- and the tag is present or there are fewer entries than the limit
abbrev pub TakesEntry : List ℕ → List ℕ → List Entry → Type 0
TakesEntry tag value entries =
    (length value ≤ VALUE_LIMIT) × IsValueOf tag value
    × ((is_some (value_under tag entries) ≡ true) ⊎ (length entries < ENTRY_LIMIT))

-- Why an entry is not added: the first that holds of too long a value, a value that does not suit
-- the tag, and no place for a new tag. `OutOfMemory` comes only if the entry could be added.
abbrev pub RefusesEntry : List ℕ → List ℕ → List Entry → BuilderFault → Type 0
RefusesEntry tag value entries ValueTooLong = VALUE_LIMIT < length value
RefusesEntry tag value entries NotObjects = (length value ≤ VALUE_LIMIT) × ¬ IsValueOf tag value
RefusesEntry tag value entries Full =
    (length value ≤ VALUE_LIMIT) × IsValueOf tag value
    × (value_under tag entries ≡ None) × (ENTRY_LIMIT ≤ length entries)
RefusesEntry tag value entries OutOfMemory = TakesEntry tag value entries
RefusesEntry _ _ _ _ = ⊥

-- there is an application, and the last one can take the entry
abbrev pub TakesObject : List ℕ → List ℕ → List Application → Type 0
TakesObject tag value applications =
    MatchOption (last_added applications) ⊥ (λ a. TakesEntry tag value a.entries)

-- why a data object is not added: there is no application, or the last refuses the entry
abbrev pub RefusesObject : List ℕ → List ℕ → List Application → BuilderFault → Type 0
RefusesObject tag value applications fault =
    MatchOption (last_added applications) (fault ≡ NoApp)
    (λ a. RefusesEntry tag value a.entries fault)

-- a card with these applications, nothing selected, nothing pending and no TPDU in progress
abbrev pub new_card : List Application → CardView
new_card applications = record {
  state = record { applications = applications; selected = None; pending = NothingPending };
  prepared = Nothing;
}

-- the texts of errors
abbrev pub fault_text : BuilderFault → List ℕ
fault_text Twice = codes "aid twice"
fault_text TooManyApps = codes "too many apps"
fault_text NoApp = codes "no app"
fault_text ValueTooLong = codes "value too long"
fault_text NotObjects = codes "not objects"
fault_text Full = codes "table full"
fault_text OutOfMemory = codes "out of memory"
