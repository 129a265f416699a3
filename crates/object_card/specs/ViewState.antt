-- How contracts see a card's fields that are borrowed as a view.
use Rattle.std.specs.Prelude.{List, None}
use Rattle.t0_core.specs.Meaning.{Prepared}
use Rattle.object_card.specs.declared.view.View.{View}
use Rattle.object_card.specs.declared.ready.Ready.{Ready}
use Rattle.object_card.specs.Tables.{Entry}
use Rattle.object_card.specs.State.{CardState}
use Rattle.object_card.specs.CardFields.{entries_at, state_of}
use Rattle.object_card.specs.CardView.{IsReady, IsStanding, prepared_of}

-- the state, and the data objects of the selected application
abbrev pub state_seen : {A : Type 0} → View A → CardState
state_seen view = state_of view.applications.now view.selected view.chain.now view.response

abbrev pub entries_seen : {A : Type 0} → View A → List Entry
entries_seen view = entries_at view.applications.now view.selected

-- the invariant of the fields
abbrev pub IsStandingView : {A : Type 0} → View A → Type 0
IsStandingView view =
    IsStanding view.applications.now view.selected view.chain.now view.response

-- what is prepared if no value is put, and that it suits the state
abbrev pub prepared_seen : {A : Type 0} → View A → Ready → Prepared CardState
prepared_seen view ready =
    prepared_of view.applications.now view.selected view.chain.now view.response ready None

abbrev pub FitsView : {A : Type 0} → View A → Ready → Type 0
FitsView view ready =
    IsReady view.applications.now view.selected view.chain.now view.response ready None
