-- What becomes of each response that a card is given.
use Rattle.std.specs.Prelude.{◌≡◌, ◌⊎◌, ℕ, List, [], ◌∷◌, ◌++◌, Option, Some, None, Bool, true, false}
use Rattle.std.specs.List.{AllByRecursion, flat_map}
use Rattle.apdu_core.specs.CommandBytes.{Command}
use Rattle.t0_core.specs.Character.{Character}
use Rattle.t0_core.specs.History.{IsItem, IsPart, Item, Whole, Cut_off, passed}
use Rattle.t0_core.specs.Meaning.{Tpdu, tpdu_of}
use Rattle.t0_core.specs.Plan.{IsCut}
use Rattle.command_card.specs.Carrying.{Did, out_of_memory}
use Rattle.command_card.specs.Deeds.{HasData, IsWithout, command_in, outcome_in}
use Rattle.command_card.specs.Given.{Answer, GivenState, Gives}
use Rattle.command_card.specs.Lending.{Happening, IsStretch, Stretch, happenings_of, lent_of, line_of}
use Rattle.command_card.specs.State.{Left}
use Rattle.command_card.specs.AtT1.{HandsOut, may_bring, shown}
use Rattle.command_card.specs.Giving.{Decided, Gave, Giving, Responded, TookBack}

-- `Answers`. If `strict`, the status is 6581 only if no response was given.
abbrev pub AnswersBy : Bool → GivenState → Did → GivenState → Type 0
AnswersBy strict old did new = Gives old did new
    ⊎ ((strict ≡ true → old.given ≡ None) × (did ≡ out_of_memory did.command) × (new ≡ old))

-- a response that the card holds, and the command that it was given for, if one was shown
pub record Held : Type 0 where
  pub shown : Option Command
  pub answer : Answer

-- What the card holds: a response, or nothing. `settled`: the response that was given last has
-- settled, or none was given.
pub data Holding : Type 0 where
  Holds : (h : Held) → Holding
  Empty : (settled : Bool) → Holding

-- the same in the application
abbrev pub answer_in : Holding → Option Answer
answer_in (Holds h) = Some h.answer
answer_in (Empty settled) = None

abbrev pub settled_in : Holding → Bool
settled_in (Holds h) = false
settled_in (Empty settled) = settled

abbrev pub IsHeld : GivenState → Holding → Type 0
IsHeld s held = (s.given ≡ answer_in held) × (s.settled ≡ settled_in held)

abbrev pub IsEmpty : Holding → Type 0
IsEmpty (Holds h) = ⊥
IsEmpty (Empty settled) = Unit {0}

-- the same after a command that settles, after a drop, and without what was shown
abbrev pub settling : Holding → Holding
settling (Holds h) = Empty true
settling (Empty settled) = Empty settled

abbrev pub dropping : Holding → Holding
dropping (Holds h) = Empty false
dropping (Empty settled) = Empty settled

abbrev pub forgetting : Holding → Holding
forgetting (Holds h) = Holds (record { shown = None; answer = h.answer })
forgetting (Empty settled) = Empty settled

-- What is held after this. A whole command that the application carries out takes the response. Any
-- other leaves it, but forgets the direction, and so what was shown.
abbrev pub held_by : Holding → Giving → Holding
held_by held (Gave shown a) = Holds (record { shown = shown; answer = a })
held_by held (Decided to_card) = held
held_by held TookBack = dropping held
held_by held (Responded c true response) = Empty true
held_by held (Responded c false response) = forgetting held

-- the response that is held goes out for this whole command, as far as Le asks
abbrev pub GoesOutWhole : Holding → Command → List ℕ → Type 0
GoesOutWhole (Empty settled) c response = ⊥
GoesOutWhole (Holds h) c response = (left : Left)
    × HandsOut h.answer.bytes h.answer.status (may_bring c.le) response left

-- A response is given only if none is held. The one that is held goes out for a whole command that
-- the application carries out.
abbrev pub IsAllowed : Holding → Giving → Type 0
IsAllowed held (Gave shown a) = IsEmpty held
IsAllowed held (Decided to_card) = Unit {0}
IsAllowed held TookBack = Unit {0}
IsAllowed held (Responded c true response) = GoesOutWhole held c response
IsAllowed held (Responded c false response) = Unit {0}

-- a command that settled, by its TPDU or whole, and its response
pub data Settled : Type 0 where
  By_tpdu : (t : Tpdu) (answer : Answer) → Settled
  As_whole : (c : Command) (answer : Answer) → Settled

abbrev pub settled_by : Holding → Giving → List Settled
settled_by (Holds h) (Responded c true response) = As_whole c h.answer ∷ []
settled_by held other = []

-- the TPDU just before what follows: none after a whole command
abbrev pub before_by : Option Tpdu → Giving → Option Tpdu
before_by before (Responded c reached response) = None
before_by before other = before

-- the same of several, in order
abbrev pub held_after : Holding → List Giving → Holding
held_after held [] = held
held_after held (k ∷ ks) = held_after (held_by held k) ks

abbrev pub AreAllowed : Holding → List Giving → Type 0
AreAllowed held [] = Unit {0}
AreAllowed held (k ∷ ks) = IsAllowed held k × AreAllowed (held_by held k) ks

abbrev pub settled_amid : Holding → List Giving → List Settled
settled_amid held [] = []
settled_amid held (k ∷ ks) = settled_by held k ++ settled_amid (held_by held k) ks

abbrev pub before_after : Option Tpdu → List Giving → Option Tpdu
before_after before [] = before
before_after before (k ∷ ks) = before_after (before_by before k) ks

-- no command was shown for it
abbrev pub IsUnshown : Holding → Type 0
IsUnshown (Holds h) = h.shown ≡ None
IsUnshown (Empty settled) = Unit {0}

-- what was shown, if anything was, is the command of this TPDU, whose data go this way
abbrev pub IsFor : Bool → Tpdu → Option Command → Type 0
IsFor to_card t None = Unit {0}
IsFor to_card t (Some c) = c ≡ command_in to_card t

-- The response goes out for this TPDU, under some cut. It is the command that was shown.
pub record GoesOut (t : Tpdu) (h : Held) : Type 0 where
  pub to_card : Bool
  pub cut : ℕ
  pub is_cut : IsCut cut
  pub is_for : IsFor to_card t h.shown
  pub has_data : HasData to_card t
  pub received_is : t.received ≡ (outcome_in to_card t h.answer.bytes h.answer.status cut).received
  pub status_is : t.status ≡ (outcome_in to_card t h.answer.bytes h.answer.status cut).status

-- a command without a response
abbrev pub IsUnanswered : Tpdu → Type 0
IsUnanswered t = (t.status ≡ (0x65, 0x81)) × (t.received ≡ [])

abbrev pub IsAnswered : Holding → Tpdu → Type 0
IsAnswered (Empty settled) t = IsUnanswered t
IsAnswered (Holds h) t = GoesOut t h

abbrev pub settles : Holding → Tpdu → List Settled
settles (Empty settled) t = []
settles (Holds h) t = By_tpdu t h.answer ∷ []

-- the whole TPDU just before what follows
abbrev pub tpdu_before : Item → Option Tpdu
tpdu_before (Whole d) = Some (tpdu_of d)
tpdu_before (Cut_off part) = None

-- What becomes of the response that is held when an item ends:
-- - A TPDU that is no command leaves it. Then no command was shown for it.
-- - It goes out for a command, which settles. If none is held, the command has 6581.
-- - If not `strict`, a command may have 6581 instead, and the response stays.
-- - A reset drops it.
-- `Rest`: what becomes of the rest, with what is held now.
abbrev pub IsMet : Bool → Option Tpdu → Holding → Item → List Settled
    → (Holding → List Settled → Type 0) → Type 0
IsMet strict before held (Whole d) done Rest =
    (IsWithout before (tpdu_of d) × IsUnshown held × Rest held done)
    ⊎ ((IsWithout before (tpdu_of d) → ⊥) × IsAnswered held (tpdu_of d)
    × (others : List Settled) × (done ≡ settles held (tpdu_of d) ++ others)
    × Rest (settling held) others)
    ⊎ ((strict ≡ false) × (IsWithout before (tpdu_of d) → ⊥) × IsUnanswered (tpdu_of d)
    × Rest (forgetting held) done)
IsMet strict before held (Cut_off part) done Rest = Rest (dropping held) done

-- What becomes of each response, in order, from the TPDU `before` on, with `held`. `done`: the
-- commands that settled, each with the response that was given for it. `last`: what is held at the
-- end.
abbrev pub AreMet : Bool → Option Tpdu → Holding → List (Stretch Giving) → List Settled
    → Holding → Type 0
AreMet strict before held [] done last = (done ≡ []) × (last ≡ held)
AreMet strict before held (s ∷ ss) done last = AreAllowed held (lent_of s.before)
    × (others : List Settled) × (done ≡ settled_amid held (lent_of s.before) ++ others)
    × IsMet strict (before_after before (lent_of s.before)) (held_after held (lent_of s.before))
    s.item others (λ now more. AreMet strict (tpdu_before s.item) now ss more last)

-- the happenings at an end without a response at first, and what became of each that was given
pub record ComesOf (strict : Bool) (first : GivenState) (happenings : List (Happening Giving))
    (last : GivenState) : Type 0 where
  pub stretches : List (Stretch Giving)
  pub current : List (Happening Giving)  -- since the last SW2 or reset
  pub part : List Character  -- of the TPDU in progress
  pub done : List Settled  -- before `current`
  pub held : Holding  -- where `current` begins
  pub happenings_are : happenings ≡ flat_map happenings_of stretches ++ current
  pub are_items : AllByRecursion (λ s. IsItem s.item) stretches
  pub are_stretches : AllByRecursion IsStretch stretches
  pub is_part : IsPart part
  pub line_is : line_of current ≡ passed part
  pub are_met : AreMet strict None (Empty first.settled) stretches done held
  pub are_allowed : AreAllowed held (lent_of current)
  pub last_is : IsHeld last (held_after held (lent_of current))
