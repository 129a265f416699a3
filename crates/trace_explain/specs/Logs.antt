-- A log of whole TPDUs or APDUs, line by line: which command has which answer.
use Rattle.std.specs.Prelude.{◌≡◌, ◌<◌, ℕ, ◌+◌, ◌-◌, List, [], ◌∷◌, ◌++◌, take, drop, length, map, slice_index, Option, Some, None, Bool, true, false, ◌==◌, ◌&&◌, ◌||◌, nat_lt, nat_le, if◌then◌else◌}
use Rattle.t0_core.specs.declared.direction.Direction.{Direction}
use Rattle.t0_core.specs.declared.direction.Direction.TheVariants.{ToCard, FromCard}
use Rattle.t0_core.specs.declared.end.End.{End}
use Rattle.t0_core.specs.declared.end.End.TheVariants as end
use Rattle.trace_explain.specs.declared.read.entry.Entry.{Entry}
use Rattle.trace_explain.specs.declared.read.entry.Entry.TheVariants as entry
use Rattle.trace_explain.specs.declared.read.entry.Source.{Source}
use Rattle.trace_explain.specs.declared.read.log.Log.{Log}
use Rattle.trace_explain.specs.declared.read.log.Open.{Open}
use Rattle.trace_explain.specs.declared.read.log.Open.TheVariants as going
use Rattle.trace_explain.specs.declared.read.form_row.Rows.{Rows}
use Rattle.trace_explain.specs.declared.read.form_row.Saying.{Saying}
use Rattle.trace_explain.specs.declared.read.form_row.Saying.TheVariants as saying
use Rattle.trace_explain.specs.declared.read.trace_line.LineFault.{LineFault}
use Rattle.trace_explain.specs.declared.read.trace_line.LineFault.TheVariants as bad
use Rattle.trace_explain.specs.Noted.{are_status}
use Rattle.trace_explain.specs.Pairs.{status_in}
use Rattle.trace_explain.specs.Patterns.{Found, Marked, ReadsAs, BadRow, NoRow, all_of, is_digits, reads}
use Rattle.trace_explain.specs.Times.{behind_spaces, behind_time}
use Rattle.trace_explain.specs.WaysOf.{by_standard}

-- What an entry says.
pub data EntryOf : Type 0 where
  Characters : Source → List ℕ → EntryOf
  Begins : EntryOf
  Pair : List ℕ → List ℕ → EntryOf
  Unanswered : List ℕ → EntryOf
  Stray : List ℕ → EntryOf
  Part : End → List ℕ → EntryOf
  Reset : EntryOf
  Note : EntryOf

abbrev pub entry_of : Entry → EntryOf
entry_of (entry.Characters source bytes) = Characters source bytes.items
entry_of entry.Begins = Begins
entry_of (entry.Pair command answer) = Pair command.items answer.items
entry_of (entry.Unanswered command) = Unanswered command.items
entry_of (entry.Stray bytes) = Stray bytes.items
entry_of (entry.Part from bytes) = Part from bytes.items
entry_of entry.Reset = Reset
entry_of entry.Note = Note

-- How the rows of a log read a line while nothing is pending, perhaps behind a time.
abbrev pub read_log : Rows → List ℕ → ReadsAs
read_log rows line = reads rows.first.items 0 (behind_time line)

-- What a line adds to what is pending, by its row: bytes, or nothing. A dump has this many left.
abbrev pub some_bytes : ReadsAs → Option (Saying × Marked)
some_bytes (Found form says m) = if length m.bytes == 0 then None else Some (says, m)
some_bytes other = None

abbrev pub rest_in : Rows → ℕ → List ℕ → Option (Saying × Marked)
rest_in rows left line = some_bytes (reads rows.rest.items left line)

-- What a line leaves open: a dump of as many bytes as it says, or bytes that fill a line.
abbrev pub line_if : Bool → End → Open
line_if true from = going.Line from
line_if false from = going.Nothing

abbrev pub left_of : End → ℕ → Open
left_of from left = if left == 0 then going.Nothing else going.Dump from left

abbrev pub opens : End → Marked → Open
opens from m = if nat_lt 0 m.count then going.Dump from m.count
    else line_if (nat_lt 0 m.goes_on && (m.goes_on == length m.bytes)) from

-- The state of a log between two lines: what the next one may continue, with its bytes so far and
-- those behind them. If the last command has no answer yet, that too. And whether the last line has
-- bytes.
pub record LogAt : Type 0 where
  pub pending : Open
  pub bytes : List ℕ
  pub status : List ℕ
  pub command : Option (List ℕ)
  pub has_bytes : Bool

abbrev pub at_first : LogAt
at_first = record {
  pending = going.Nothing;
  bytes = [];
  status = [];
  command = None;
  has_bytes = false;
}

abbrev pub command_at : Log → Option (List ℕ)
command_at l = elim l.command [ None ↦ None | Some command ↦ Some command.items ]

abbrev pub log_at : Log → LogAt
log_at l = record {
  pending = l.pending;
  bytes = l.bytes.items;
  status = l.status.items;
  command = command_at l;
  has_bytes = l.has_bytes;
}

-- An answer belongs to the last command, if there is one.
abbrev pub to_command : Option (List ℕ) → List ℕ → EntryOf
to_command None answer = Stray answer
to_command (Some command) answer = Pair command answer

-- The last command without an answer.
abbrev pub unanswered : Option (List ℕ) → List EntryOf
unanswered None = []
unanswered (Some command) = Unanswered command ∷ []

abbrev pub without_command : LogAt → LogAt
without_command at = record at { command = None }

-- The last line has bytes, or none.
abbrev pub with_line : Bool → LogAt → LogAt
with_line has_bytes at = record at { has_bytes = has_bytes }

-- What a step adds, and the state after it.
pub record Step : Type 0 where
  pub gives : List EntryOf
  pub at : LogAt

abbrev pub answered : LogAt → List ℕ → Step
answered at answer =
    record { gives = to_command at.command answer ∷ []; at = without_command at }

-- What is pending has ended.
abbrev pub closed_at : LogAt → Option (List ℕ) → LogAt
closed_at at command = record {
  pending = going.Nothing;
  bytes = [];
  status = [];
  command = command;
  has_bytes = at.has_bytes;
}

abbrev pub closed : LogAt → End → Step
closed at end.Terminal =
    record { gives = []; at = closed_at at (Some (at.bytes ++ at.status)) }
closed at end.Card = answered (closed_at at at.command) (at.bytes ++ at.status)

-- More bytes of this end: the last ones, unless something may continue them.
abbrev pub with_bytes : LogAt → Marked → Open → LogAt
with_bytes at m next = record {
  pending = next;
  bytes = at.bytes ++ m.bytes;
  status = at.status ++ m.status;
  command = at.command;
  has_bytes = true;
}

abbrev pub continued : LogAt → End → Marked → Open → Step
continued at from m going.Nothing = closed (with_bytes at m going.Nothing) from
continued at from m next = record { gives = []; at = with_bytes at m next }

-- These were added before.
abbrev pub behind : List EntryOf → Step → Step
behind gives step = record { gives = gives ++ step.gives; at = step.at }

-- The last command has no answer; and then a command begins, or the card is reset.
abbrev pub given_up : LogAt → Step
given_up at = record { gives = unanswered at.command; at = without_command at }

abbrev pub begun : LogAt → Step
begun at = record { gives = unanswered at.command ++ Begins ∷ []; at = without_command at }

abbrev pub resets : LogAt → Step
resets at = record {
  gives = unanswered at.command ++ Reset ∷ [];
  at = with_line false (without_command at);
}

-- The first bytes of a command or an answer.
abbrev pub started : LogAt → End → Marked → Step
started at end.Terminal m = behind (begun at).gives
    (continued (begun at).at end.Terminal m (opens end.Terminal m))
started at end.Card m = continued at end.Card m (opens end.Card m)

-- A command and its answer in one line. Data before the status are those of the end that sends data
-- under this INS, the terminal's as many as P3 says. If they are not, or no standard says which end
-- that is, all bytes count as a command without an answer.
abbrev pub len_with : Option Direction → ℕ → ℕ → ℕ
len_with (Some ToCard) p3 all = if nat_lt all (p3 + 7) then all else p3 + 5
len_with (Some FromCard) p3 all = 5
len_with None p3 all = if p3 == 0 then 5 else all

abbrev pub command_len : List ℕ → ℕ
command_len bytes = if nat_lt (length bytes) 5 then length bytes
    else if nat_lt (length bytes) 8 then 5
    else len_with (by_standard (slice_index bytes 0) (slice_index bytes 1)) (slice_index bytes 4)
    (length bytes)

abbrev pub paired : LogAt → List ℕ → List ℕ → Step
paired at command answer = record {
  gives = (begun at).gives ++ Pair command answer ∷ [];
  at = with_line true (without_command at);
}

abbrev pub both : LogAt → List ℕ → Step
both at bytes =
    paired at (take (command_len bytes) bytes) (drop (command_len bytes) bytes)

-- What a line adds if nothing is pending, as its row says.
abbrev pub noted : LogAt → Step
noted at = record { gives = Note ∷ []; at = with_line false at }

abbrev pub switched : LogAt → Open → Step
switched at next = record {
  gives = Note ∷ [];
  at = with_line false (record at { pending = next });
}

-- Digits alone right behind a line with bytes, in a line of no row: the line before is cut.
abbrev pub is_loose : Bool → List ℕ → ReadsAs → Bool
is_loose has_bytes line NoRow = has_bytes
    && (is_digits (behind_spaces line) || is_digits (behind_spaces (behind_time line)))
is_loose has_bytes line other = false

abbrev pub Takes : ReadsAs → LogAt → Step → Type 0
Takes (Found form (saying.Sends from) m) at step = step ≡ started at from m
Takes (Found form saying.Both m) at step = step ≡ both at (all_of m)
Takes (Found form saying.Apart m) at step = step ≡ paired at m.bytes m.status
Takes (Found form saying.Off m) at step = step ≡ switched at going.Off
Takes (Found form saying.Reset m) at step = step ≡ resets at
Takes (Found form saying.Atr m) at step = step ≡ behind (resets at).gives (noted (resets at).at)
Takes BadRow at step = ⊥
Takes other at step = step ≡ noted at

-- The same between a row `off` and a row `on`, where lines of bytes are notes.
abbrev pub TakesOff : ReadsAs → LogAt → Step → Type 0
TakesOff (Found form saying.On m) at step = step ≡ switched at going.Nothing
TakesOff (Found form saying.Reset m) at step = step ≡ resets at
TakesOff (Found form saying.Atr m) at step =
    step ≡ behind (resets at).gives (noted (resets at).at)
TakesOff other at step = step ≡ noted at

-- What the next line adds if nothing is pending.
abbrev pub TakesFirst : Rows → LogAt → List ℕ → Step → Type 0
TakesFirst rows at line step = Takes (read_log rows line) at step
    × (is_loose at.has_bytes line (read_log rows line) ≡ false)

-- What the next line adds if bytes are pending: more of them, or they have ended before.
abbrev pub TakesRest : Option (Saying × Marked) → End → Rows → LogAt → List ℕ → Step → Type 0
TakesRest None from rows at line step = (next : Step)
    × TakesFirst rows (closed at from).at line next × (step ≡ behind (closed at from).gives next)
TakesRest (Some (says, m)) from rows at line step = step ≡ continued at from m (opens from m)

-- What it adds to a dump with this many bytes left.
abbrev pub is_rest : Saying → Bool
is_rest saying.Rest = true
is_rest other = false

abbrev pub within_dump : ℕ → Option (Saying × Marked) → Option Marked
within_dump left None = None
within_dump left (Some (says, m)) =
    if is_rest says && nat_le (length m.bytes) left then Some m else None

abbrev pub dumped_in : Rows → ℕ → List ℕ → Option Marked
dumped_in rows left line = within_dump left (rest_in rows left line)

abbrev pub TakesIn : Rows → Open → LogAt → List ℕ → Step → Type 0
TakesIn rows going.Nothing at line step = TakesFirst rows at line step
TakesIn rows going.Off at line step = TakesOff (read_log rows line) at step
TakesIn rows (going.Line from) at line step =
    TakesRest (rest_in rows 0 line) from rows at line step
TakesIn rows (going.Dump from left) at line step = (m : Marked)
    × (dumped_in rows left line ≡ Some m)
    × (step ≡ continued at from m (left_of from (left - length m.bytes)))

abbrev pub TakesLogLine : Rows → LogAt → List ℕ → Step → Type 0
TakesLogLine rows at line step = TakesIn rows at.pending at line step

-- With more bytes what is pending exceeds the limit.
abbrev pub IsTooMuch : List ℕ → List ℕ → Type 0
IsTooMuch bytes more = 4194304 < length bytes + length more

-- Only digits say that the last line continues an answer, which ends with a status with its bytes
-- and without them.
pub record IsTwofold (from : End) (says : Saying) (bytes : List ℕ) (more : Marked) : Type 0 where
  pub from_is : from ≡ end.Card
  pub says_is : says ≡ saying.Perhaps
  pub is_last : opens from more ≡ going.Nothing
  pub before : are_status (status_in bytes) ≡ true
  pub after : are_status (status_in (bytes ++ more.bytes)) ≡ true

-- A line can't be read if nothing is pending.
abbrev pub IsBadFirst : LineFault → Bool → List ℕ → ReadsAs → Type 0
IsBadFirst bad.Hex has_bytes line found = found ≡ BadRow
IsBadFirst bad.Loose has_bytes line found = is_loose has_bytes line found ≡ true
IsBadFirst bad.OutOfMemory has_bytes line found = Unit {0}
IsBadFirst other has_bytes line found = ⊥

-- It can't be read after these bytes if they are pending.
abbrev pub IsBadRest : LineFault → End → LogAt → Option (Saying × Marked) → List ℕ → ReadsAs
    → Type 0
IsBadRest why from at None line found = IsBadFirst why at.has_bytes line found
IsBadRest bad.Twofold from at (Some (says, m)) line found = IsTwofold from says at.bytes m
IsBadRest bad.TooLong from at (Some (says, m)) line found = IsTooMuch at.bytes m.bytes
IsBadRest bad.OutOfMemory from at (Some (says, m)) line found = Unit {0}
IsBadRest other from at (Some (says, m)) line found = ⊥

abbrev pub IsBadDump : LineFault → List ℕ → Option Marked → Type 0
IsBadDump bad.Hex bytes dumped = dumped ≡ None
IsBadDump bad.TooLong bytes (Some m) = IsTooMuch bytes m.bytes
IsBadDump bad.OutOfMemory bytes dumped = Unit {0}
IsBadDump other bytes dumped = ⊥

abbrev pub IsNoMemory : LineFault → Type 0
IsNoMemory bad.OutOfMemory = Unit {0}
IsNoMemory other = ⊥

abbrev pub IsBadIn : Rows → Open → LogAt → LineFault → List ℕ → Type 0
IsBadIn rows going.Nothing at why line = IsBadFirst why at.has_bytes line (read_log rows line)
IsBadIn rows going.Off at why line = IsNoMemory why
IsBadIn rows (going.Line from) at why line =
    IsBadRest why from at (rest_in rows 0 line) line (read_log rows line)
IsBadIn rows (going.Dump from left) at why line =
    IsBadDump why at.bytes (dumped_in rows left line)

-- What the end of a log adds.
abbrev pub ended_in : Open → LogAt → List EntryOf
ended_in going.Nothing at = unanswered at.command
ended_in going.Off at = unanswered at.command
ended_in (going.Line from) at = (closed at from).gives ++ unanswered (closed at from).at.command
ended_in (going.Dump from count) at = Part from at.bytes ∷ unanswered at.command

abbrev pub ended : LogAt → List EntryOf
ended at = ended_in at.pending at

-- The log has made this step, and its additions follow the others.
pub record Took (step : Step) (before after : List Entry) (new : Log) : Type 0 where
  pub gives_is : map entry_of after ≡ map entry_of before ++ step.gives
  pub at_is : log_at new ≡ step.at
