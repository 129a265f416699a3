-- What the calls on the handle of a card do to its content. A refusal changes nothing.
use Rattle.std.specs.Prelude.{◌≡◌, ◌⊎◌, ℕ, ℤ, List, [], ◌∷◌, ◌++◌, Bool, true, false, Option, Some, None, if◌then◌else◌}
use Rattle.t0_core.specs.Character.{Character}
use Rattle.t0_core.specs.declared.end.End.TheVariants.{Terminal, Card}
use Rattle.t0_core.specs.declared.line_fault.LineFault.TheVariants.{NotListening}
use Rattle.t0_core.specs.History.{Event, Passed, Reset}
use Rattle.t0_core.specs.CardHistory.{Leads, LeadsUnder, IsTakenLast}
use Rattle.t0_core.specs.CardSide.{EndOf, Taking_header, listens, takes_plan, with_character}
use Rattle.t0_core.specs.Plan.{Course, Cursor, advanced, plan_kept}
use Rattle.object_card.specs.declared.builder_fault.BuilderFault.{BuilderFault}
use Rattle.object_card.specs.Tables.{IsAid}
use Rattle.object_card.specs.State.{CardState, after_reset}
use Rattle.object_card.specs.CardMeaning.{Does}
use Rattle.object_card.specs.CardView.{CardView}
use Rattle.object_card.specs.Builder.{TakesApplication, RefusesApplication, TakesObject, RefusesObject, with_application, with_last_entry, new_card}
use Rattle.card_c.specs.declared.card_side.CardSide.{CardSide}
use Rattle.card_c.specs.declared.card_side.CardSide.TheVariants.{Building, Standing, AtT1, Own, OwnAtT1}
use Rattle.card_c.specs.Codes.{gt_ok, gt_sends, gt_state, gt_memory, gt_argument, builder_code, line_code}
use Rattle.card_c.specs.OwnCalls.{OwnTakes, OwnTurns, OwnResets}
use Rattle.card_c.specs.OwnT1.{own_at_t0}
use Rattle.card_c.specs.TagNumbers.{IsNumbered}

-- A card without applications, if the handle was empty and memory did not run out.
abbrev pub Begins : Option CardSide → ℤ → Option CardSide → Type 0
Begins (Some old) code new = (code ≡ gt_state) × (new ≡ Some old)
Begins None code new = ((code ≡ gt_ok) × (new ≡ Some (Building [])))
    ⊎ ((code ≡ gt_memory) × (new ≡ None))

-- the builder refuses, with the number of its fault
abbrev pub IsRefused : (BuilderFault → Type 0) → ℤ → Type 0
IsRefused Refuses code = (fault : BuilderFault) × Refuses fault × (code ≡ builder_code fault)

-- an application is added
abbrev pub AddsApplication : List ℕ → CardSide → ℤ → CardSide → Type 0
AddsApplication aid (Building applications) code new =
    (IsAid aid × TakesApplication aid applications × (code ≡ gt_ok)
    × (new ≡ Building (with_application aid applications)))
    ⊎ ((¬ IsAid aid) × (code ≡ gt_argument) × (new ≡ Building applications))
    ⊎ (IsAid aid × IsRefused (RefusesApplication aid applications) code
    × (new ≡ Building applications))
AddsApplication aid side code new = (code ≡ gt_state) × (new ≡ side)

-- a data object is added to the last application
abbrev pub AddsObject : ℕ → List ℕ → Bool → CardSide → ℤ → CardSide → Type 0
AddsObject number value locked (Building applications) code new =
    ((tag : List ℕ) × IsNumbered number tag × TakesObject tag value applications × (code ≡ gt_ok)
    × (new ≡ Building (with_last_entry tag value locked applications)))
    ⊎ (((tag : List ℕ) → ¬ IsNumbered number tag) × (code ≡ gt_argument)
    × (new ≡ Building applications))
    ⊎ ((tag : List ℕ) × IsNumbered number tag
    × IsRefused (RefusesObject tag value applications) code × (new ≡ Building applications))
AddsObject number value locked side code new = (code ≡ gt_state) × (new ≡ side)

-- These events led to the card's end, from a card in this state.
abbrev pub HaveLed : CardState → List Event → EndOf CardView → Type 0
HaveLed first events end =
    Leads Does after_reset first events end.card.state end.card.prepared end.stage

-- These characters, since a reset, under these plans.
abbrev pub HaveLedUnder : CardState → List Character → List Course → EndOf CardView → Type 0
HaveLedUnder first came taken end =
    LeadsUnder Does first came taken end.card.state end.card.prepared end.stage

-- no plans
abbrev pub no_plans : Cursor
no_plans = record { rest = []; kept = None }

-- The card is built, with nothing selected, and has received nothing; or memory ran out, and it is
-- still being built.
abbrev pub Finishes : CardSide → ℤ → CardSide → Type 0
Finishes (Building applications) code new =
    ((end : EndOf CardView) × (code ≡ gt_ok) × (new ≡ Standing end no_plans)
    × (end ≡ record { card = new_card applications; stage = Taking_header [] })
    × HaveLed end.card.state [] end × HaveLedUnder end.card.state [] [] end)
    ⊎ ((code ≡ gt_memory) × (new ≡ Building applications))
Finishes side code new = (code ≡ gt_state) × (new ≡ side)

-- whatever led to the end leads to the new one with this event
abbrev pub LeadsOn : Event → EndOf CardView → EndOf CardView → Type 0
LeadsOn event old new = (first : CardState) (events : List Event) → HaveLed first events old
    → HaveLed first (events ++ event ∷ []) new

-- A card that listens takes this character of the terminal.
abbrev pub TakesCharacter : EndOf CardView → ℕ → EndOf CardView → Type 0
TakesCharacter end byte next = (listens end.stage ≡ true)
    × (next ≡ record end { stage = with_character end.stage byte })
    × LeadsOn (Passed (Terminal, byte)) end next
    × ((first : CardState) (came : List Character) (taken : List Course)
    → HaveLedUnder first came taken end
    → HaveLedUnder first (came ++ (Terminal, byte) ∷ []) taken next)

-- A character of the terminal is taken if the card listens.
abbrev pub TakesOne : ℕ → CardSide → ℤ → CardSide → Type 0
TakesOne byte (Standing end plans) code new =
    ((listens end.stage ≡ false) × (code ≡ line_code NotListening) × (new ≡ Standing end plans))
    ⊎ ((next : EndOf CardView) × (code ≡ gt_ok) × (new ≡ Standing next plans)
    × TakesCharacter end byte next)
TakesOne byte side code new = OwnTakes byte side code new

-- A card that does not listen sends this character, under its plan, or the next one if it begins to
-- answer.
abbrev pub HandsOutCharacter : EndOf CardView → Cursor → ℕ → EndOf CardView → Cursor → Type 0
HandsOutCharacter end plans byte next left = (listens end.stage ≡ false)
    × (left ≡ (if takes_plan end.stage then advanced plans else plans))
    × LeadsOn (Passed (Card, byte)) end next
    × ((first : CardState) (came : List Character) (taken : List Course)
    → HaveLedUnder first came taken end
    → (takes_plan end.stage ≡ false → IsTakenLast (plan_kept plans) taken)
    → HaveLedUnder first (came ++ (Card, byte) ∷ [])
    (if takes_plan end.stage then taken ++ plan_kept left ∷ [] else taken) next)

-- The card's next character, if it does not listen.
abbrev pub TurnsEnd : EndOf CardView → Cursor → ℕ → ℕ → ℤ → EndOf CardView → Cursor → Type 0
TurnsEnd end plans before byte code next left =
    ((listens end.stage ≡ true) × (code ≡ gt_ok) × (next ≡ end) × (left ≡ plans)
    × (byte ≡ before))
    ⊎ ((code ≡ gt_sends) × HandsOutCharacter end plans byte next left)

abbrev pub Turns : ℕ → ℕ → CardSide → ℤ → CardSide → Type 0
Turns before byte (Standing end plans) code new =
    (next : EndOf CardView) × (left : Cursor) × (new ≡ Standing next left)
    × TurnsEnd end plans before byte code next left
Turns before byte side code new = OwnTurns before byte side code new

-- The card is reset, and speaks T=0; the plans stay.
abbrev pub ResetsEnd : EndOf CardView → Cursor → ℤ → CardSide → Type 0
ResetsEnd end plans code new =
    (next : EndOf CardView) × (code ≡ gt_ok) × (new ≡ Standing next plans)
    × (next.card.state ≡ after_reset end.card.state) × (next.stage ≡ Taking_header [])
    × LeadsOn Reset end next
    × HaveLed next.card.state [] next × HaveLedUnder next.card.state [] [] next

abbrev pub Resets : CardSide → ℤ → CardSide → Type 0
Resets (Standing end plans) code new = ResetsEnd end plans code new
Resets (AtT1 at) code new = ResetsEnd at.end.card at.plans code new
Resets (OwnAtT1 at) code new = OwnResets (Own (own_at_t0 at)) code new
Resets side code new = OwnResets side code new
