-- What a listener has heard and reported since its start.
use Rattle.std.specs.Prelude.{◌≡◌, ◌⊎◌, ℕ, List, [], ◌∷◌, ◌++◌, Some, None, Bool, false, ◌==◌, ◌&&◌, if◌then◌else◌, length, map, slice_index}
use Rattle.std.specs.List.{AllByRecursion, flat_map, fold}
use Rattle.apdu_core.specs.StatusWord.{IsStatusWord, is_first_status}
use Rattle.t0_core.specs.declared.direction.Direction.TheVariants.{ToCard}
use Rattle.t0_core.specs.declared.end.End.{End}
use Rattle.t0_core.specs.declared.end.End.TheVariants.{Terminal}
use Rattle.t0_core.specs.declared.plan.Step.{Step}
use Rattle.t0_core.specs.declared.plan.Step.TheVariants.{Null, All}
use Rattle.t0_core.specs.Character.{Character}
use Rattle.t0_core.specs.Dialogue.{Body, Dialogue, IsDialogue}
use Rattle.t0_core.specs.Front.{Front, IsFront, GoesOn, Ends, front_characters}
use Rattle.t0_core.specs.TapSide.{TapStandsAt, IsRead, IsReadFront, tap_fault_at}
use Rattle.t0_core.specs.History as history
use Rattle.t0_core.specs.History.{Item, Whole, Cut_off, events_of, passed}
use Rattle.t0_core.specs.TapHistory.{IsOverheard}
use Rattle.trace_explain.specs.declared.follow.listener.Listener.{Listener}
use Rattle.trace_explain.specs.declared.follow.listener.ListenerFault.{ListenerFault}
use Rattle.trace_explain.specs.declared.follow.listener.ListenerFault.TheVariants.{NoDialogue, OutOfMemory}
use Rattle.trace_explain.specs.declared.follow.tpdu.Mark.{Mark}
use Rattle.trace_explain.specs.Reports.{Report, report_of, Reports, ReportsFront, both_marks, no_mark}

-- An event of a trace: a reset, a character of a dialogue at T=0, or the report of a command that
-- blocks carried at T=1. A character is loose if bytes right before it are part of no dialogue, and
-- neither a whole answer to reset nor PPS. Its mark also has its line.
pub data Event : Type 0 where
  Passed : (c : Character) (m : Mark) → Event
  Reset : Event
  Carried : (t : Report) → Event

-- A command at T=1 is outside of each dialogue at T=0, as a reset is.
abbrev pub on_line : Event → history.Event
on_line (Passed c m) = history.Passed c
on_line Reset = history.Reset
on_line (Carried t) = history.Reset

abbrev pub carried_in : List Event → List Report
carried_in [] = []
carried_in (Carried t ∷ events) = t ∷ carried_in events
carried_in (e ∷ events) = carried_in events

-- The mark of a header, by the characters of its dialogue.
abbrev pub with_event : Mark → Event → Mark
with_event m (Passed c n) = both_marks m n
with_event m other = m

abbrev pub mark_of : List Event → Mark
mark_of events = fold with_event no_mark events

-- A whole dialogue, or what a reset cut off of one, and its events.
abbrev pub Part : Type 0
Part = Item × List Event

abbrev pub events_in : List Part → List Event
events_in parts = flat_map (λ (p : Part). p.1) parts

-- The report of a dialogue that a reset cut off after these characters.
abbrev pub ReportsPart : Report → Mark → List Character → Type 0
ReportsPart t m part =
    (front : Front) × (part ≡ front_characters front) × ReportsFront t m front

-- The reports of these items in turn: whole dialogues, and what a reset cut off of one, if any; and
-- commands at T=1.
abbrev pub ReportItems : List Part → List Report → Type 0
ReportItems [] [] = Unit {0}
ReportItems [] (t ∷ reports) = ⊥
ReportItems ((Whole d, events) ∷ parts) [] = ⊥
ReportItems ((Whole d, events) ∷ parts) (t ∷ reports) =
    Reports t (mark_of events) d × ReportItems parts reports
ReportItems ((Cut_off [], events) ∷ parts) reports = (rest : List Report)
    × (reports ≡ carried_in events ++ rest) × ReportItems parts rest
ReportItems ((Cut_off (c ∷ part), events) ∷ parts) [] = ⊥
ReportItems ((Cut_off (c ∷ part), events) ∷ parts) (t ∷ reports) =
    ReportsPart t (mark_of events) (c ∷ part) × (carried_in events ≡ [])
    × ReportItems parts reports

-- A command without data, with P3 00, whose card repeats INS before its status, perhaps after
-- NULLs. A tap reads INS as the beginning of 256 data from the card.
pub record IsBare (b : Body) : Type 0 where
  pub p3_is : b.p3 ≡ 0
  pub direction_is : b.direction ≡ ToCard
  pub nulls : List Step
  pub are_nulls : AllByRecursion (λ s. s ≡ Null) nulls
  pub segments_are : b.segments ≡ nulls ++ All ∷ []

-- A dialogue, as a tap reads it or such a command; or what a reset cut off of one.
abbrev pub IsNotedItem : Item → Type 0
IsNotedItem (Whole d) = IsDialogue d × (IsRead d.body ⊎ IsBare d.body)
IsNotedItem (Cut_off part) = IsOverheard (Cut_off part)

abbrev pub IsNoted : Part → Type 0
IsNoted p = IsNotedItem p.0 × (map on_line p.1 ≡ events_of p.0)

-- The report of such a command that is whole, while a tap expects the third of its data.
abbrev pub are_status : List ℕ → Bool
are_status (sw1 ∷ sw2 ∷ []) = is_first_status sw1
are_status other = false

abbrev pub AreStatus : List ℕ → Type 0
AreStatus (sw1 ∷ sw2 ∷ []) = IsStatusWord (sw1, sw2)
AreStatus other = ⊥

abbrev pub is_bare : Report → Bool
is_bare t = (slice_index t.header 4 == 0) && (t.tally.ones == 0) && (length t.status == 0)
    && are_status t.moved

-- The same with its data as its status.
abbrev pub bared : Report → Report
bared t = record t { way = None; moved = []; status = t.moved }

-- The report of the current dialogue if no more characters follow; nothing if it has none.
abbrev pub as_ended : Report → Report
as_ended t = if is_bare t then bared t else t

abbrev pub ended_by : Report → List Report
ended_by t = if length t.header == 0 then [] else as_ended t ∷ []

-- These events are whole dialogues, with a report of each; resets, with a report of what each cut
-- off; commands at T=1, with theirs; and a front of one more dialogue, where the tap is. The
-- current report is of that front.
pub record HasNoted (events : List Event) (reports : List Report) (l : Listener) : Type 0 where
  pub parts : List Part
  pub last : List Event
  pub front : Front
  pub events_are : events ≡ events_in parts ++ last
  pub last_are : map on_line last ≡ passed (front_characters front)
  pub are_noted : AllByRecursion IsNoted parts
  pub is_front : IsFront front
  pub is_at : TapStandsAt l.tap front
  pub are_reported : ReportItems parts reports
  pub under_way : ReportsFront (report_of l.under_way) (mark_of last) front

-- After these events a listener has noted these characters of an end, and none ended a dialogue.
-- Before each of them a listener was at its front.
abbrev pub NotesRun : End → Mark → List ℕ → List Event → List Report → Listener → Type 0
NotesRun from m [] events reports l = HasNoted events reports l
NotesRun from m (b ∷ bytes) events reports l =
    ((at : Listener) × HasNoted events reports at)
    × NotesRun from m bytes (events ++ Passed (from, b) m ∷ []) reports l

-- No dialogue of a tap continues or ends with this character, and no bare command ended before it.
pub record NoneContinues (l : Listener) (c : Character) : Type 0 where
  pub continues : (front next : Front) → TapStandsAt l.tap front → GoesOn front c next
      → IsReadFront next → ⊥
  pub ends : (front : Front) (d : Dialogue) → TapStandsAt l.tap front → Ends front c d → ⊥
  pub not_bare : c.0 ≡ Terminal → is_bare (report_of l.under_way) ≡ false

-- The listener refused a character for this reason, and has not changed; or memory ran out.
abbrev pub IsRefused : ListenerFault → Listener → Character → Listener → Type 0
IsRefused (NoDialogue fault) old c new =
    NoneContinues old c × (tap_fault_at old.tap c.0 c.1 ≡ Some fault) × (new ≡ old)
IsRefused OutOfMemory old c new = Unit {0}
