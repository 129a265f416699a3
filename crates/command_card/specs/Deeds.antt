-- What an application has been through, by what happened on the line.
use Rattle.std.specs.Prelude.{◌≡◌, ◌⊎◌, ℕ, length, List, [], ◌∷◌, Option, Some, None, Bool, true, false}
use Rattle.apdu_core.specs.declared.header.Header.{Header}
use Rattle.apdu_core.specs.HeaderBytes.{ins_is_valid}
use Rattle.apdu_core.specs.CommandBytes.{Command}
use Rattle.apdu_core.specs.StatusWord.{StatusWord, corrects, count}
use Rattle.t0_core.specs.Character.{Character}
use Rattle.t0_core.specs.History.{AreCutInto, Event, Item, Whole, Cut_off}
use Rattle.t0_core.specs.Meaning.{Tpdu, tpdu_of}
use Rattle.t0_core.specs.Plan.{IsCut}
use Rattle.command_card.specs.Carrying.{Did, Makes, asking, taking}
use Rattle.command_card.specs.State.{For_repeat, Outcome, handed, is_fetch, taken}

-- the same header again, with P3 as the 6CXX just before said
abbrev pub Repeats : Option Tpdu → Tpdu → Type 0
Repeats None t = ⊥
Repeats (Some before) t = (before.header ≡ t.header) × (corrects before.status ≡ Some t.p3)

-- The TPDUs that are no command of the application: an INS of 6X or 9X, a GET RESPONSE, and the
-- same header after 6CXX.
abbrev pub IsWithout : Option Tpdu → Tpdu → Type 0
IsWithout before t = (ins_is_valid t.header.ins ≡ false) ⊎ (is_fetch t.header ≡ true)
    ⊎ Repeats before t

-- The command of any other TPDU. If data go to the card it has them, and no Le; otherwise Le, by
-- P3.
abbrev pub command_in : Bool → Tpdu → Command
command_in true t = taking t.header t.sent
command_in false t = asking t.header (count t.p3)

-- its data came, as many as P3 says, or none
abbrev pub HasData : Bool → Tpdu → Type 0
HasData true t = t.p3 ≡ length t.sent
HasData false t = t.sent ≡ []

-- what a response to it brings
abbrev pub outcome_in : Bool → Tpdu → List ℕ → StatusWord → ℕ → Outcome
outcome_in true t response status cut = taken response status cut
outcome_in false t response status cut =
    handed (For_repeat t.header response status) response status (count t.p3) cut

-- One step of the application. Its response and status, under some cut, are what the TPDU shows.
pub record IsCarriedOut {S : Type 0} (Act : S → Did → S → Type 0) (to_card : Bool) (old : S)
    (t : Tpdu) (new : S) : Type 0 where
  pub response : List ℕ
  pub status : StatusWord
  pub cut : ℕ
  pub is_cut : IsCut cut
  pub has_data : HasData to_card t
  pub makes : Makes Act old (command_in to_card t) response status new
  pub received_is : t.received ≡ (outcome_in to_card t response status cut).received
  pub status_is : t.status ≡ (outcome_in to_card t response status cut).status

-- A TPDU that is no command changes nothing. Any other is one step.
abbrev pub StepsBy : {S : Type 0} → (S → Header → Bool) → (S → Did → S → Type 0) → Option Tpdu
    → S → Tpdu → S → Type 0
StepsBy takes Act before old t new = (IsWithout before t × (new ≡ old))
    ⊎ ((IsWithout before t → ⊥) × IsCarriedOut Act (takes old t.header) old t new)

-- The items in order, after the TPDU `before`: whole TPDUs, and resets. Of a TPDU that a reset cut
-- off there is the reset alone.
abbrev pub GoesThrough : {S : Type 0} → (S → Header → Bool) → (S → Did → S → Type 0) → (S → S)
    → Option Tpdu → S → List Item → S → Type 0
GoesThrough takes Act reset before old [] new = new ≡ old
GoesThrough {S = S} takes Act reset before old (Whole d ∷ items) new =
    (mid : S) × StepsBy takes Act before old (tpdu_of d) mid
    × GoesThrough takes Act reset (Some (tpdu_of d)) mid items new
GoesThrough takes Act reset before old (Cut_off part ∷ items) new =
    GoesThrough takes Act reset None (reset old) items new

-- Events at a card's end, and what the application has been through.
pub record IsThrough {S : Type 0} (takes : S → Header → Bool) (Act : S → Did → S → Type 0)
    (reset : S → S) (first : S) (events : List Event) (last : S) : Type 0 where
  pub items : List Item
  pub part : List Character  -- of the TPDU in progress
  pub are_cut : AreCutInto events items part
  pub goes : GoesThrough takes Act reset None first items last
