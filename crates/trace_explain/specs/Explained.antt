-- What an explainer without `--resume` has explained, line by line.
use Rattle.std.specs.Prelude.{◌≡◌, ◌<◌, ◌≤◌, ℕ, List, [], ◌∷◌, ◌++◌, length, take, get_or, Bool, Option, Some, None, true, false, ◌==◌, ◌&&◌, not, Ok, Err}
use Rattle.std.specs.Global.{Vec}
use Rattle.t0_core.specs.declared.end.End.{End}
use Rattle.t0_core.specs.Character.{Character}
use Rattle.t0_core.specs.TapSide.{due_at}
use Rattle.trace_explain.specs.declared.describe.complaint.Complaint.{Complaint}
use Rattle.trace_explain.specs.declared.explain_fault.ExplainFault.{ExplainFault}
use Rattle.trace_explain.specs.declared.explain_fault.ExplainFault.TheVariants as fault
use Rattle.trace_explain.specs.declared.explainer.Explainer.{Explainer}
use Rattle.trace_explain.specs.declared.follow.listener.Listener.{Listener}
use Rattle.trace_explain.specs.declared.follow.tpdu.Mark.{Mark}
use Rattle.trace_explain.specs.declared.read.trace_line.LineFault.{LineFault}
use Rattle.trace_explain.specs.declared.read.trace_line.LineFault.TheVariants as bad
use Rattle.trace_explain.specs.declared.read.entry.Source.{Source}
use Rattle.trace_explain.specs.declared.read.entry.Entry.TheVariants as entry
use Rattle.trace_explain.specs.declared.follow.turn.TurnFault.{TurnFault}
use Rattle.trace_explain.specs.declared.write.teller.Teller.{Teller}
use Rattle.trace_explain.specs.Account.{AddsBoxes}
use Rattle.trace_explain.specs.Lines.{block_events, IsBadLine, LineLeads, Says, Position, TakesCharacter, TakesCharacters, read_on}
use Rattle.trace_explain.specs.Noted.{Event, HasNoted, NoneContinues, Passed, ended_by}
use Rattle.trace_explain.specs.Openings.{Opening, begins_answer, has_begun, is_dialogue, opening_of, role_of}
use Rattle.trace_explain.specs.Reports.{Report, loose, no_mark, one_more, report_of}
use Rattle.trace_explain.specs.Turns.{source_at}

-- It reads characters, does not resume, and passes nothing over.
abbrev pub IsPlain : Explainer → Type 0
IsPlain e = (e.resuming.resumes ≡ false) × (e.resuming.passed ≡ None)
    × (e.reading.of_tpdus ≡ false)

-- It has heard these events, and reported these dialogues.
abbrev pub HasExplained : List Event → List Report → Explainer → Type 0
HasExplained events reports e = HasNoted events reports e.listener × IsPlain e

-- Its position in the trace.
abbrev pub position_of : Explainer → Position
position_of e = record {
  opening = opening_of e.preface;
  has_characters = e.has_characters;
  reading = e.reading;
  line = e.line;
  number = e.number;
}

-- After these events more it has these reports more, and has added their boxes.
pub record ExplainsMore (more events : List Event) (before : List Report) (old new : Explainer)
    : Type 0 where
  pub reports : List Report
  pub explained : HasExplained (events ++ more) (before ++ reports) new
  pub boxes : AddsBoxes reports old.teller new.teller

-- A teller and a listener have reported these commands at T=1 more.
pub record CarriesAll (all : List Report) (events : List Event) (before : List Report)
    (listener : Listener) (old new : Teller) : Type 0 where
  pub reports : List Report
  pub noted : HasNoted (events ++ block_events all) (before ++ reports) listener
  pub boxes : AddsBoxes reports old new

-- The events are those of a character.
abbrev pub ExplainsCharacter : End → ℕ → List Event → List Report → Explainer → Explainer → Type 0
ExplainsCharacter from b events before old new = (more : List Event)
    × TakesCharacter events (position_of old) from b more (position_of new)
    × ExplainsMore more events before old new

-- The events are those of the characters of a line.
abbrev pub ExplainsCharacters
    : Source → List ℕ → List Event → List Report → Explainer → Explainer → Type 0
ExplainsCharacters source bytes events before old new = (more : List Event)
    × TakesCharacters source events (position_of old) bytes more (position_of new)
    × ExplainsMore more events before old new

-- The events are those of the line at this position.
abbrev pub ExplainsLine
    : Position → List ℕ → List Event → List Report → Explainer → Explainer → Type 0
ExplainsLine at line events before old new = (more : List Event)
    × LineLeads events at line more (position_of new)
    × ExplainsMore more events before old new

-- The card answers again with this character.
abbrev pub answers_again : Opening → Listener → End → ℕ → Bool
answers_again o l from b = has_begun o.stage && begins_answer from b
    && (length (report_of l.under_way).header == 0)

-- The characters of a line before this place were taken, and each dialogue was reported.
pub record IsReachedAt (source : Source) (at : Position) (bytes : List ℕ) (place : ℕ)
    (events : List Event) (before : List Report) : Type 0 where
  pub within : place < length bytes
  pub more : List Event
  pub position : Position
  pub takes : TakesCharacters source events at (take place bytes) more position
  pub reports : List Report
  pub listener : Listener
  pub noted : HasNoted (events ++ more) (before ++ reports) listener

-- The protocol error is right. The character at its place is this end's, and part of the dialogue;
-- but no dialogue continues with it, and the card does not answer again. What is shown last is of
-- the dialogue that it cuts off, with a loose header.
pub record IsRight (IsShown : List Report → Report → Type 0) (c : Complaint) (source : Source)
    (at : Position) (bytes : List ℕ) (events : List Event) (before : List Report) : Type 0 where
  pub here : IsReachedAt source at bytes c.place events before
  pub sent : source_at source here.position.reading here.position.opening here.listener
      (get_or bytes c.place 0) ≡ Ok c.from
  pub is_of_dialogue : is_dialogue (role_of here.position.opening c.from
      (get_or bytes c.place 0)) ≡ true
  pub none : NoneContinues here.listener (c.from, get_or bytes c.place 0)
  pub not_again : answers_again here.position.opening here.listener c.from
      (get_or bytes c.place 0) ≡ false
  pub expected_is : c.expected ≡ due_at here.listener.tap
  pub byte_is : c.received.byte ≡ get_or bytes c.place 0
  pub shown : IsShown (before ++ here.reports) (loose (report_of here.listener.under_way))

-- The sender of the character at this place is unknown for this reason.
pub record IsUnsent (IsShown : List Report → Report → Type 0) (why : TurnFault) (place : ℕ)
    (source : Source) (at : Position) (bytes : List ℕ) (events : List Event) (before : List Report)
    : Type 0 where
  pub here : IsReachedAt source at bytes place events before
  pub unsent : source_at source here.position.reading here.position.opening here.listener
      (get_or bytes place 0) ≡ Err why
  pub shown : IsShown (before ++ here.reports) (report_of here.listener.under_way)

-- A line with this number stops for one of these two reasons, or because memory ran out.
abbrev pub StopsAmong
    : (List Report → Report → Type 0) → ExplainFault → Source → ℕ → Position → List ℕ
    → List Event → List Report → Type 0
StopsAmong IsShown (fault.NoDialogue c) source line at bytes events before =
    (c.line ≡ line) × IsRight IsShown c source at bytes events before
StopsAmong IsShown (fault.NoTurn number place why) source line at bytes events before =
    (number ≡ line) × IsUnsent IsShown why place source at bytes events before
StopsAmong IsShown fault.OutOfMemory source line at bytes events before = Unit {0}
StopsAmong IsShown other source line at bytes events before = ⊥

-- The number of the next line.
abbrev pub next_line : Explainer → ℕ
next_line e = one_more e.line

-- The number of the line in a fault.
abbrev pub line_of : ExplainFault → Option ℕ
line_of (fault.NoDialogue c) = Some c.line
line_of (fault.NoTurn number place why) = Some number
line_of (fault.BadLine number why) = Some number
line_of (fault.LineTooLong number) = Some number
line_of other = None

-- A line says characters for which this holds.
abbrev pub HoldsIn : (Source → Position → List ℕ → Type 0) → Position → List ℕ → Type 0
HoldsIn Holds at line = (source : Source) × (bytes : Vec ℕ)
    × Says at.reading line (entry.Characters source bytes)
    × Holds source (record at { reading = read_on source at.reading }) bytes.items

-- The fault is right for this line, which follows these events, with these reports and this one of
-- the dialogue in progress: for a character, or for the line itself. A line that is too long has at
-- least as many bytes as the limit, without a CR right before its LF.
abbrev pub StopsRightly
    : (List Report → Report → Type 0) → ExplainFault → Position → List ℕ → List Event
    → List Report → Report → Type 0
StopsRightly IsShown (fault.NoDialogue c) at line events before t =
    HoldsIn (λ source from bytes. IsRight IsShown c source from bytes events before) at line
StopsRightly IsShown (fault.NoTurn number place why) at line events before t =
    HoldsIn (λ source from bytes. IsUnsent IsShown why place source from bytes events before) at
    line
StopsRightly IsShown (fault.BadLine number bad.OutOfMemory) at line events before t = ⊥
StopsRightly IsShown (fault.BadLine number why) at line events before t =
    IsBadLine why at.reading line × IsShown before t
StopsRightly IsShown (fault.LineTooLong number) at line events before t =
    (4194304 ≤ length line) × IsShown before t
StopsRightly IsShown other at line events before t = ⊥

abbrev pub StopsIfAt
    : (List Report → Report → Type 0) → Option ℕ → ExplainFault → ℕ → List ℕ → Position
    → List Event → List Report → Report → Type 0
StopsIfAt IsShown None f number line at events before t = Unit {0}
StopsIfAt IsShown (Some found) f number line at events before t =
    (found ≡ number) × StopsRightly IsShown f at line events before t

-- It stops at the line with this number, which the fault has, at this position.
abbrev pub StopsAtLine
    : (List Report → Report → Type 0) → ExplainFault → ℕ → List ℕ → Position → List Event
    → List Report → Report → Type 0
StopsAtLine IsShown f number line at events before t =
    StopsIfAt IsShown (line_of f) f number line at events before t

-- It has stopped, and would show these reports at the end, and last what is left of this one.
pub record Leaves (before : List Report) (old : Teller) (new : Explainer) (all : List Report)
    (t : Report) : Type 0 where
  pub reports : List Report
  pub boxes : AddsBoxes reports old new.teller
  pub hears : new.reading.of_tpdus ≡ false
  pub all_are : all ++ ended_by t
      ≡ before ++ (reports ++ ended_by (report_of new.listener.under_way))

-- The fault of a refused line.
abbrev pub refused : ℕ → LineFault → ExplainFault
refused number bad.OutOfMemory = fault.OutOfMemory
refused number why = fault.BadLine number why

-- The lines have no signs, and so far nothing shows that the trace begins between two TPDUs.
abbrev pub is_astray : Explainer → Bool
is_astray e = e.reading.is_unsigned && not e.teller.is_led

-- It has heard this character of a dialogue, and reported what ended; or none continues with it.
abbrev pub Hears
    : Bool → Character → Mark → List Event → List Report → Listener → Listener → Teller → Teller
    → Type 0
Hears true c m events before l after old new = (reports : List Report)
    × HasNoted (events ++ Passed c m ∷ []) (before ++ reports) after
    × AddsBoxes reports old new
Hears false c m events before l after old new =
    (after ≡ l) × NoneContinues after c × AddsBoxes [] old new

-- It has taken this character; or it stops because no dialogue continues with it.
abbrev pub TakesOrStops : Bool → End → ℕ → List Event → List Report → Explainer → Explainer → Type 0
TakesOrStops false from b events before old new =
    ExplainsCharacter from b events before old new
TakesOrStops true from b events before old new = HasExplained events before new
    × Hears false (from, b) no_mark events before old.listener new.listener old.teller new.teller
    × (is_dialogue (role_of (opening_of old.preface) from b) ≡ true)
    × (answers_again (opening_of old.preface) new.listener from b ≡ false)
