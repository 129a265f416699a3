-- What a card of given responses asks its caller before it continues.
use Rattle.std.specs.Prelude.{◌≡◌, ◌≢◌, ◌⊎◌, ℕ, ◌<◌, ◌≤◌, ◌==◌, ◌&&◌, not, List, [], length, Option, Some, None, Bool, true, false, is_some, if◌then◌else◌}
use Rattle.apdu_core.specs.declared.header.Header.{Header}
use Rattle.apdu_core.specs.HeaderBytes.{ins_is_valid}
use Rattle.apdu_core.specs.CommandBytes.{Command}
use Rattle.apdu_core.specs.StatusWord.{StatusWord, count}
use Rattle.t0_core.specs.CardSide.{EndOf, Taking_header, begins_with, takes_plan, whole_data}
use Rattle.command_card.specs.declared.given.Directions.{Directions}
use Rattle.command_card.specs.declared.given.Directions.TheVariants.{Unknown}
use Rattle.command_card.specs.declared.application.TheConstants.{OWN_RESPONSE_LIMIT}
use Rattle.command_card.specs.declared.own.GiveFault.{GiveFault}
use Rattle.command_card.specs.declared.own.GiveFault.TheVariants as fault
use Rattle.command_card.specs.declared.own.Need.{Need}
use Rattle.command_card.specs.declared.own.Need.TheVariants as need
use Rattle.command_card.specs.declared.own.Wanted.{Wanted}
use Rattle.command_card.specs.declared.own.Wanted.TheVariants as wanted
use Rattle.command_card.specs.declared.ready.Ready.{Ready}
use Rattle.command_card.specs.declared.ready.Ready.TheVariants as ready
use Rattle.command_card.specs.Carrying.{IsOwn, asking, taking}
use Rattle.command_card.specs.AtT1.{Responds, shown}
use Rattle.command_card.specs.Given.{GivenState, Gives, after_drop, at_rest, takes_data, with_answer, without_answer}
use Rattle.command_card.specs.Meaning.{Kind, Takes, Asks, kind_in}
use Rattle.command_card.specs.State.{CardState, is_fetch}
use Rattle.command_card.specs.View.{CardOf, standing_in}

abbrev pub is_known : Directions → Bool
is_known Unknown = false
is_known other = true

-- What the application is needed for at a header of this kind: nothing, which way its data go, or a
-- response, at the header or after the data.
abbrev pub need_of : Bool → Kind → Need
need_of false Takes = need.Direction
need_of false Asks = need.Direction
need_of true Takes = need.AfterData
need_of true Asks = need.AtHeader
need_of known other = need.Nothing

abbrev pub need_in : CardState GivenState → Header → ℕ → Need
need_in s h p3 = need_of (is_known s.app.directions) (kind_in takes_data s h p3)

-- what is wanted of the caller at a whole header, if these are its data
abbrev pub wanted_at : Need → Bool → Header → ℕ → List ℕ → Wanted
wanted_at need.Nothing given h p3 bytes = wanted.Nothing
wanted_at need.Direction given h p3 bytes = wanted.Direction h
wanted_at need.AtHeader given h p3 bytes =
    if given then wanted.Nothing else wanted.Response (asking h (count p3))
wanted_at need.AfterData given h p3 bytes =
    if not given && (length bytes == p3) then wanted.Response (taking h bytes) else wanted.Nothing

-- the same by what is still needed
abbrev pub wanted_as : Need → Header → ℕ → List ℕ → Wanted
wanted_as need.Nothing h p3 bytes = wanted.Nothing
wanted_as need.Direction h p3 bytes = wanted.Direction h
wanted_as need.AtHeader h p3 bytes = wanted.Response (asking h (count p3))
wanted_as need.AfterData h p3 bytes = wanted.Response (taking h bytes)

abbrev pub wanted_by : CardOf GivenState → Header → ℕ → List ℕ → Wanted
wanted_by c h p3 bytes =
    wanted_at (need_in (standing_in at_rest c) h p3) (is_some c.app.given) h p3 bytes

-- after the data that the card waits for
abbrev pub wanted_after : Bool → Ready → List ℕ → Wanted
wanted_after false (ready.Receives h p3 cut) bytes =
    if ins_is_valid h.ins && (length bytes == p3) then wanted.Response (taking h bytes)
    else wanted.Nothing
wanted_after given other bytes = wanted.Nothing

abbrev pub wanted_with : CardOf GivenState → Option (List ℕ) → Wanted
wanted_with c None = wanted.Nothing
wanted_with c (Some bytes) = wanted_after (is_some c.app.given) c.ready bytes

-- the card has prepared no answer
abbrev pub is_open : Ready → Bool
is_open ready.Nothing = true
is_open (ready.Receives h p3 cut) = true
is_open other = false

-- no TPDU has reached the card
abbrev pub is_free : Ready → Bool
is_free ready.Nothing = true
is_free other = false

-- The card takes a direction: no TPDU has reached it, and it does not know the direction.
abbrev pub may_decide : CardOf GivenState → Bool
may_decide c = is_free c.ready && not (is_known c.app.directions)

-- The card takes a response: it has prepared no answer, and has no response.
abbrev pub MayTake : CardOf GivenState → Type 0
MayTake c = (is_open c.ready ≡ true) × (c.app.given ≡ None)

-- Why this response is not taken: the first reason that holds.
abbrev pub IsNotTaken : CardOf GivenState → List ℕ → StatusWord → GiveFault → Type 0
IsNotTaken c bytes status fault.NotWanted = ¬ MayTake c
IsNotTaken c bytes status fault.TooLong = MayTake c × (OWN_RESPONSE_LIMIT < length bytes)
IsNotTaken c bytes status fault.CardsOwn =
    MayTake c × (length bytes ≤ OWN_RESPONSE_LIMIT) × (¬ IsOwn status)
IsNotTaken c bytes status fault.OutOfMemory =
    MayTake c × (length bytes ≤ OWN_RESPONSE_LIMIT) × IsOwn status × (bytes ≢ [])

-- a response is taken
abbrev pub IsTaken : CardOf GivenState → List ℕ → StatusWord → CardOf GivenState → Type 0
IsTaken old bytes status new = MayTake old × IsOwn status
    × (length bytes ≤ OWN_RESPONSE_LIMIT)
    × (new ≡ record old { app = with_answer old.app bytes status })

-- what the card answered to the last whole command is dropped, unless a TPDU has reached it
abbrev pub forgotten_by : CardOf GivenState → CardOf GivenState
forgotten_by c = if is_free c.ready then record c { fresh = [] } else c

-- a command is dropped, and with it what was given for it
abbrev pub taken_back : CardOf GivenState → CardOf GivenState
taken_back c = if is_free c.ready then record c { app = after_drop c.app } else c

-- the data that the card waits for are those of a command of the application's own
abbrev pub AwaitsBy : CardState GivenState → Ready → Type 0
AwaitsBy s (ready.Receives h p3 cut) = kind_in takes_data s h p3 ≡ Takes
AwaitsBy s other = Unit {0}

abbrev pub AwaitsOwn : CardOf GivenState → Type 0
AwaitsOwn c = AwaitsBy (standing_in at_rest c) c.ready

-- What is wanted before the end's next character.
abbrev pub IsWanted : EndOf (CardOf GivenState) → Wanted → Type 0
IsWanted e w =
    ((takes_plan e.stage ≡ false) × (w ≡ wanted_with e.card (whole_data e.stage)))
    ⊎ ((h : Header) × (p3 : ℕ) × (e.stage ≡ Taking_header (begins_with h p3))
    × (w ≡ wanted_by e.card h p3 []))

-- for a whole command that has none or one of the application's own
abbrev pub wanted_told : Bool → Option Command → Wanted
wanted_told false (Some c) = wanted.Response c
wanted_told given other = wanted.Nothing

abbrev pub wanted_for : GivenState → Command → Wanted
wanted_for s c = if is_fetch c.header then wanted.Nothing
    else if is_known s.directions
    then wanted_told (is_some s.given) (shown (takes_data s c.header) c.header c.content c.le)
    else wanted.Direction c.header

-- What a whole command brings: the response that was given for it, if it needs one. What was
-- answered about its data holds for it alone.
abbrev pub RespondsAs : CardState GivenState → Command → List ℕ → CardState GivenState → Type 0
RespondsAs old c response new = (app : GivenState)
    × Responds takes_data Gives old c response (record { app = app; left = new.left })
    × (new.app ≡ without_answer app)

-- The same at T=1. Nothing is carried out before the direction and the response are there.
abbrev pub RespondsAtT1 : CardState GivenState → Command → List ℕ → CardState GivenState → Type 0
RespondsAtT1 old c response new =
    (wanted_for old.app c ≡ wanted.Nothing) × RespondsAs old c response new
