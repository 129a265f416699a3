-- The lines of a trace, with or without signs, and the events that each leads to.
use Rattle.std.specs.Prelude.{MatchBool, ◌≡◌, ◌≢◌, ◌⊎◌, ℕ, List, [], ◌∷◌, ◌++◌, Option, Some, None, Ok, Bool, true, false, ◌||◌, if◌then◌else◌}
use Rattle.std.specs.List.{AllByRecursion}
use Rattle.t0_core.specs.declared.end.End.{End}
use Rattle.trace_explain.specs.declared.read.reading.Reading.{Reading}
use Rattle.trace_explain.specs.declared.read.form_row.Saying.{Saying}
use Rattle.trace_explain.specs.declared.read.form_row.Saying.TheVariants as saying
use Rattle.trace_explain.specs.declared.follow.listener.Listener.{Listener}
use Rattle.trace_explain.specs.declared.read.trace_line.LineFault.{LineFault}
use Rattle.trace_explain.specs.declared.read.trace_line.LineFault.TheVariants as bad
use Rattle.trace_explain.specs.declared.read.entry.Source.{Source}
use Rattle.trace_explain.specs.declared.read.entry.Source.TheVariants.{Sign, Turn}
use Rattle.trace_explain.specs.declared.read.entry.Entry.{Entry}
use Rattle.trace_explain.specs.declared.read.entry.Entry.TheVariants as entry
use Rattle.trace_explain.specs.Files.{number_at}
use Rattle.trace_explain.specs.Noted.{Carried, Event, HasNoted, IsNoted, NoneContinues, Part, Passed, Reset, events_in}
use Rattle.trace_explain.specs.Openings.{Opening, begins_answer, first_opening, has_begun, is_dialogue, is_loose, opens, reports_with, role_of, unopened}
use Rattle.trace_explain.specs.Patterns.{Found, NoRow, ReadsAs, BadRow, all_of, bytes_in, is_digits, reads}
use Rattle.trace_explain.specs.Times.{behind_clock, behind_time}
use Rattle.trace_explain.specs.Reports.{Report, one_more}
use Rattle.trace_explain.specs.Turns.{source_at}

-- How the rows of a trace read a line, perhaps behind a time.
abbrev pub read_of : Reading → List ℕ → ReadsAs
read_of reading line = reads reading.rows.first.items 0 (behind_time line)

-- A whole line contains digits alone, or what follows a time does.
abbrev pub are_digits : List ℕ → Bool
are_digits line = is_digits line || is_digits (behind_time line)

-- A line may have signs of this form: of any if no line had one before, otherwise of the same.
abbrev pub Suits : Option ℕ → ℕ → Type 0
Suits None form = Unit {0}
Suits (Some known) form = form ≡ known

-- What a line without bytes says: a reset, or a note.
abbrev pub SaysNone : ReadsAs → Entry → Type 0
SaysNone (Found form saying.Reset m) entry.Reset = Unit {0}
SaysNone (Found form saying.Note m) entry.Note = Unit {0}
SaysNone NoRow entry.Note = Unit {0}
SaysNone other entry = ⊥

-- What a line with signs of this form, if known, says: characters as its row marks them, or none.
-- Digits alone are no note if no form is known.
abbrev pub SaysSigned : Option ℕ → Bool → ReadsAs → Entry → Type 0
SaysSigned known digits (Found form (saying.Sends from) m) (entry.Characters (Sign f end) bytes) =
    (f ≡ form) × (end ≡ from) × (bytes.items ≡ all_of m) × Suits known form
SaysSigned known digits NoRow entry =
    SaysNone NoRow entry × (known ≡ None → digits ≡ false)
SaysSigned known digits found entry = SaysNone found entry

-- The same without signs: characters are digits, perhaps after a time.
abbrev pub SaysUnsigned : List ℕ → ReadsAs → Entry → Type 0
SaysUnsigned line found (entry.Characters (Sign form from) bytes) = ⊥
SaysUnsigned line found (entry.Characters Turn bytes) = (is_digits (behind_clock line) ≡ true)
    × (bytes_in (behind_clock line) ≡ Some bytes.items)
SaysUnsigned line found entry =
    (is_digits (behind_clock line) ≡ false) × SaysNone found entry

-- What a line says.
abbrev pub Says : Reading → List ℕ → Entry → Type 0
Says reading line entry = MatchBool reading.is_unsigned
    (SaysUnsigned line (read_of reading line) entry)
    (SaysSigned reading.form (are_digits line) (read_of reading line) entry)

-- A row of whole TPDUs, which no trace of characters has.
abbrev pub is_of_log : Saying → Bool
is_of_log (saying.Sends from) = false
is_of_log saying.Reset = false
is_of_log saying.Note = false
is_of_log other = true

-- A refused line only begins as a row; is of another form than the lines before; or contains
-- digits alone, and no line before has a sign.
abbrev pub IsBadSigned : LineFault → Option ℕ → Bool → ReadsAs → Type 0
IsBadSigned bad.Hex known digits BadRow = Unit {0}
IsBadSigned bad.Hex known digits (Found form says m) = is_of_log says ≡ true
IsBadSigned (bad.OtherForm expected) known digits (Found form (saying.Sends from) m) =
    (known ≡ Some expected) × (form ≢ expected)
IsBadSigned bad.NoSign known digits NoRow = (known ≡ None) × (digits ≡ true)
IsBadSigned bad.OutOfMemory known digits found = Unit {0}
IsBadSigned other known digits found = ⊥

-- Without signs, a refused line has digits that are not two for each byte, or begins with a sign.
abbrev pub has_sign : ReadsAs → Bool
has_sign NoRow = false
has_sign (Found form saying.Reset m) = false
has_sign (Found form saying.Note m) = false
has_sign other = true

abbrev pub IsBadUnsigned : LineFault → List ℕ → ReadsAs → Type 0
IsBadUnsigned bad.Hex line found = (is_digits (behind_clock line) ≡ true)
    × (bytes_in (behind_clock line) ≡ None)
IsBadUnsigned bad.Signed line found = has_sign found ≡ true
IsBadUnsigned bad.OutOfMemory line found = Unit {0}
IsBadUnsigned other line found = ⊥

abbrev pub IsBadLine : LineFault → Reading → List ℕ → Type 0
IsBadLine why reading line = MatchBool reading.is_unsigned
    (IsBadUnsigned why line (read_of reading line))
    (IsBadSigned why reading.form (are_digits line) (read_of reading line))

-- The state of a trace between two lines: the opening since it began or the card was reset; whether
-- a character of either end was received; how its next lines are read. The number of the newest
-- line in the trace, and in its file.
pub record Position : Type 0 where
  pub opening : Opening
  pub has_characters : Bool
  pub reading : Reading
  pub line : ℕ
  pub number : ℕ

-- The position before the first line.
abbrev pub first_of_all : Reading → Position
first_of_all reading = record {
  opening = first_opening reading.first_edc;
  has_characters = false;
  reading = reading;
  line = 0;
  number = 0;
}

-- The position in the next line.
abbrev pub entered : Position → Position
entered at = record at {
  line = one_more at.line;
  number = number_at at.reading.files.parts.items (one_more at.line);
}

-- The reading after a line of characters of this source, whose sign decides the form.
abbrev pub read_on : Source → Reading → Reading
read_on (Sign form from) reading = record reading { form = Some form }
read_on Turn reading = reading

-- The position after a character of this end.
abbrev pub after_character : Position → End → ℕ → Position
after_character at from b = record at {
  opening = opens at.opening (role_of at.opening from b) b at.number;
  has_characters = true;
}

-- The events of a character of blocks: the reports of the commands that get their response with
-- it. The listener at T=0 is reset before each.
abbrev pub block_events : List Report → List Event
block_events [] = []
block_events (t ∷ reports) = Reset ∷ Carried t ∷ block_events reports

-- The events of a character of a line with this number. A character of an opening has none.
abbrev pub dialogue_events : Opening → ℕ → End → ℕ → List Event
dialogue_events o line from b = if is_dialogue (role_of o from b)
    then Passed (from, b) (record { is_loose = is_loose o.stage; line = line }) ∷ []
    else block_events (reports_with (role_of o from b) (opens o (role_of o from b) b line).blocks)

-- These events are whole dialogues and resets alone.
pub record AreOver (events : List Event) : Type 0 where
  pub parts : List Part
  pub events_are : events ≡ events_in parts
  pub are_noted : AllByRecursion IsNoted parts

-- The card answers again without a line for a reset: between two dialogues this character begins an
-- answer, and no listener of these events expects it. So the card was reset: an opening begins.
pub record AnswersAgain (so_far : List Event) (at : Position) (from : End) (b : ℕ)
    (events : List Event) (after : Position) : Type 0 where
  pub has_begun : has_begun at.opening.stage ≡ true
  pub begins : begins_answer from b ≡ true
  pub are_over : AreOver so_far
  pub reports : List Report
  pub listener : Listener
  pub noted : HasNoted so_far reports listener
  pub none : NoneContinues listener (from, b)
  pub events_are : events ≡ Reset ∷ []
  pub after_is : after ≡ after_character (record at { opening = unopened }) from b

-- The events of a character after these events, and the position after it.
abbrev pub TakesCharacter : List Event → Position → End → ℕ → List Event → Position → Type 0
TakesCharacter so_far at from b events after =
    ((events ≡ dialogue_events at.opening at.number from b) × (after ≡ after_character at from b))
    ⊎ AnswersAgain so_far at from b events after

-- After these events a character is this end's, as a listener at their front knows.
pub record IsSent (source : Source) (so_far : List Event) (at : Position) (b : ℕ) (from : End)
    : Type 0 where
  pub reports : List Report
  pub listener : Listener
  pub noted : HasNoted so_far reports listener
  pub sent : source_at source at.reading at.opening listener b ≡ Ok from

-- The events of the characters of a line.
abbrev pub TakesCharacters
    : Source → List Event → Position → List ℕ → List Event → Position → Type 0
TakesCharacters source so_far at [] events after = (events ≡ []) × (after ≡ at)
TakesCharacters source so_far at (b ∷ bytes) events after = (from : End)
    × IsSent source so_far at b from
    × (first rest : List Event) × (next : Position)
    × TakesCharacter so_far at from b first next
    × (events ≡ first ++ rest) × TakesCharacters source (so_far ++ first) next bytes rest after

-- The events of an entry of a trace of characters.
abbrev pub TakesEntry : List Event → Position → Entry → List Event → Position → Type 0
TakesEntry so_far at (entry.Characters source bytes) events after =
    TakesCharacters source so_far (record at { reading = read_on source at.reading }) bytes.items
    events after
TakesEntry so_far at entry.Reset events after =
    (events ≡ Reset ∷ []) × (after ≡ record at { opening = unopened })
TakesEntry so_far at entry.Note events after = (events ≡ []) × (after ≡ at)
TakesEntry so_far at of_log events after = ⊥

abbrev pub LineLeads : List Event → Position → List ℕ → List Event → Position → Type 0
LineLeads so_far at line events after =
    (this : Entry) × Says at.reading line this × TakesEntry so_far at this events after
