-- A whole trace: its lines, and what an explainer without `--resume` has explained of them.
use Rattle.std.specs.Prelude.{◌≡◌, ◌≤◌, ◌<◌, ℕ, ◌+◌, ◌-◌, ◌^◌, min, List, [], ◌∷◌, ◌++◌, length, Bool, true, false, ◌==◌, if◌then◌else◌, Option, Some, None, Result, Ok, Err}
use Rattle.std.specs.Str.Lines.{strip_carriage_return}
use Rattle.trace_explain.specs.declared.explain_fault.ExplainFault.{ExplainFault}
use Rattle.trace_explain.specs.declared.explain_fault.ExplainFault.TheVariants as fault
use Rattle.trace_explain.specs.declared.explainer.Explainer.{Explainer}
use Rattle.trace_explain.specs.declared.follow.listener.Listener.{Listener}
use Rattle.trace_explain.specs.declared.read.reading.Reading.{Reading}
use Rattle.trace_explain.specs.Account.{HasWritten, Out}
use Rattle.trace_explain.specs.Explained.{HasExplained, StopsRightly, line_of, next_line, position_of}
use Rattle.trace_explain.specs.Lines.{LineLeads, Position, entered, first_of_all}
use Rattle.trace_explain.specs.Noted.{Event, HasNoted, ended_by}
use Rattle.trace_explain.specs.Reports.{Report, report_of}

-- The lines of bytes, after these bytes of the first line. Each ends at LF, which the last one may
-- lack, and loses one CR right before that. Nothing after the last LF is not a line.
abbrev pub lines_from : List ℕ → List ℕ → List (List ℕ)
lines_from line [] = if length line == 0 then [] else line ∷ []
lines_from line (b ∷ bytes) =
    if b == 10 then strip_carriage_return line ∷ lines_from [] bytes
    else lines_from (line ++ b ∷ []) bytes

-- These bytes continue a line, and end none.
abbrev pub AreOfLine : List ℕ → Type 0
AreOfLine run = (line left : List ℕ)
    → lines_from line (run ++ left) ≡ lines_from (line ++ run) left

abbrev pub lines_of : List ℕ → List (List ℕ)
lines_of bytes = lines_from [] bytes

-- After these events lines lead, one by one, to other events, and from one position to another.
abbrev pub SayInTurn : List Event → Position → List (List ℕ) → List Event → Position → Type 0
SayInTurn so_far at [] events after = (events ≡ []) × (after ≡ at)
SayInTurn so_far at (line ∷ others) events after = (first rest : List Event) × (next : Position)
    × LineLeads so_far (entered at) line first next
    × (events ≡ first ++ rest) × SayInTurn (so_far ++ first) next others rest after

-- These are all lines so far.
abbrev pub SayAll : Reading → List (List ℕ) → List Event → Position → Type 0
SayAll reading lines events after = SayInTurn [] (first_of_all reading) lines events after

-- A listener has heard all events of these lines, and reported each dialogue in turn; they end at
-- this position. What is written shows these reports.
pub record IsExplained (IsShown : List Report → Report → Type 0) (reading : Reading)
    (all : List (List ℕ)) (at : Position) : Type 0 where
  pub events : List Event
  pub says : SayAll reading all events at
  pub reports : List Report
  pub listener : Listener
  pub noted : HasNoted events reports listener
  pub is_shown : IsShown reports (report_of listener.under_way)

-- At least one of them has a character.
abbrev pub IsWhole : (List Report → Report → Type 0) → Reading → List (List ℕ) → Type 0
IsWhole IsShown reading all =
    (at : Position) × IsExplained IsShown reading all at × (at.has_characters ≡ true)

-- None of these lines has a character of either end.
abbrev pub SayNoCharacters : Reading → List (List ℕ) → Type 0
SayNoCharacters reading all = (events : List Event) × (at : Position)
    × SayAll reading all events at × (at.has_characters ≡ false)

-- The number of the line after these, from 1 up to the greatest that fits.
abbrev pub number_behind : List (List ℕ) → ℕ
number_behind before = min (length before + 1) (2 ^ 64 - 1)

-- The line with this number. Those before were heard, and each whole dialogue in them reported.
pub record IsReached (reading : Reading) (all : List (List ℕ)) (number : ℕ) : Type 0 where
  pub before : List (List ℕ)
  pub line : List ℕ
  pub others : List (List ℕ)
  pub is_cut : all ≡ before ++ line ∷ others
  pub number_is : number ≡ number_behind before
  pub events : List Event
  pub at : Position
  pub says : SayAll reading before events at
  pub reports : List Report
  pub listener : Listener
  pub noted : HasNoted events reports listener

-- A fault that stops it at a line is right for it, and what is written shows the reports so far. A
-- fault at the end means: no line has a character.
abbrev pub StopsInLine
    : (List Report → Report → Type 0) → Reading → List (List ℕ) → ExplainFault → Option ℕ → Type 0
StopsInLine IsShown reading all f None = Unit {0}
StopsInLine IsShown reading all f (Some number) = (reached : IsReached reading all number)
    × StopsRightly IsShown f (entered reached.at) reached.line reached.events reached.reports
    (report_of reached.listener.under_way)

abbrev pub StopsIn
    : (List Report → Report → Type 0) → Reading → List (List ℕ) → ExplainFault → Type 0
StopsIn IsShown reading all fault.NoCharacters = SayNoCharacters reading all
StopsIn IsShown reading all (fault.NoForm line note) = SayNoCharacters reading all
StopsIn IsShown reading all f = StopsInLine IsShown reading all f (line_of f)

-- If the fault is that of a trace that is too long, the trace exceeds the limit.
abbrev pub IsOver : List ℕ → ExplainFault → Type 0
IsOver bytes fault.InputTooLong = 1099511627776 < length bytes
IsOver bytes other = Unit {0}

-- A trace explained to its end is within the limit. One that is refused for its length exceeds it.
abbrev pub KeepsLimit : {T : Type 0} → List ℕ → Result T ExplainFault → Type 0
KeepsLimit bytes (Ok x) = length bytes ≤ 1099511627776
KeepsLimit bytes (Err f) = IsOver bytes f

-- The faults at the end: it resumed after one, skipped characters of no known sender, got none, or
-- got nothing whole.
abbrev pub IsOfEnd : ExplainFault → Bool → Type 0
IsOfEnd (fault.Resumed complaints first) has_characters = Unit {0}
IsOfEnd (fault.BadPairs complaints line why) has_characters = Unit {0}
IsOfEnd (fault.Skipped line place) has_characters = Unit {0}
IsOfEnd (fault.NothingWhole line note) has_characters = Unit {0}
IsOfEnd (fault.NoValidBlock invalid) has_characters = Unit {0}
IsOfEnd (fault.NoForm line note) has_characters = has_characters ≡ false
IsOfEnd fault.NoCharacters has_characters = has_characters ≡ false
IsOfEnd other has_characters = ⊥

-- The faults of the writer: it failed, or nobody reads the output any more.
abbrev pub IsOfWriting : ExplainFault → Type 0
IsOfWriting fault.Write = Unit {0}
IsOfWriting fault.Closed = Unit {0}
IsOfWriting other = ⊥

-- The sink has failed so, if it is a fault of the writer.
abbrev pub IsOfSink : (ExplainFault → Type 0) → ExplainFault → Type 0
IsOfSink Fails fault.Write = Fails fault.Write
IsOfSink Fails fault.Closed = Fails fault.Closed
IsOfSink Fails other = Unit {0}

-- The exit status of a fault: 1, but 0 if nobody reads the output any more.
abbrev pub status_of : ExplainFault → ℕ
status_of fault.Closed = 0
status_of other = 1

-- The lines so far were explained. These bytes of the next one were received, and these are left.
-- This text was written out.
pub record HasReceived (front : Out) (reading : Reading) (all : List (List ℕ))
    (line left : List ℕ) (e : Explainer) : Type 0 where
  pub before : List (List ℕ)
  pub is_cut : all ≡ before ++ lines_from line left
  pub number_is : next_line e ≡ number_behind before
  pub events : List Event
  pub says : SayAll reading before events (position_of e)
  pub reports : List Report
  pub explained : HasExplained events reports e
  pub written : HasWritten front reports e

-- An explainer has stopped. At the end it shows these reports, and what is left of this one.
pub record HasLeft (front : Out) (e : Explainer) (all : List Report) (t : Report) : Type 0 where
  pub reports : List Report
  pub written : HasWritten front reports e
  pub all_are : all ++ ended_by t ≡ reports ++ ended_by (report_of e.listener.under_way)

-- No byte was received yet, whatever comes.
abbrev pub IsReady : Out → Reading → Explainer → Type 0
IsReady front reading e = (left : List ℕ) → HasReceived front reading (lines_of left) [] left e

-- The faults of lines and their characters.
abbrev pub IsOfLines : ExplainFault → Type 0
IsOfLines fault.Read = ⊥
IsOfLines fault.Write = ⊥
IsOfLines fault.Closed = ⊥
IsOfLines fault.InputTooLong = ⊥
IsOfLines (fault.NothingWhole line note) = ⊥
IsOfLines (fault.NoValidBlock invalid) = ⊥
IsOfLines fault.NoCharacters = ⊥
IsOfLines (fault.NoForm line note) = ⊥
IsOfLines other = Unit {0}
