-- What patterns mark in a line. A pattern is a list of parts: each begins where the last one ends.
use Rattle.std.specs.Prelude.{◌≡◌, ℕ, ◌+◌, ◌-◌, ◌*◌, min, List, [], ◌∷◌, ◌++◌, take, drop, length, replicate, Option, Some, None, Bool, true, false, not, nat_le, nat_lt, ◌==◌, ◌&&◌, ◌||◌, if◌then◌else◌}
use Rattle.hex.specs.Hex.{hex_digit_value, is_hex_digit}
use Rattle.trace_explain.specs.declared.read.digits.Spot.{Spot}
use Rattle.trace_explain.specs.declared.read.digits.Spot.TheVariants.{Between, Behind, Bound, Within}
use Rattle.trace_explain.specs.declared.read.pattern.Marks.{Marks}
use Rattle.trace_explain.specs.declared.read.pattern.Part.{Part}
use Rattle.trace_explain.specs.declared.read.pattern.Part.TheVariants as part
use Rattle.trace_explain.specs.declared.read.pattern.Stop.{Stop}
use Rattle.trace_explain.specs.declared.read.pattern.Stop.TheVariants as stop
use Rattle.trace_explain.specs.declared.read.form_row.Found.{Found as RowFound}
use Rattle.trace_explain.specs.declared.read.form_row.Found.TheVariants as found
use Rattle.trace_explain.specs.declared.read.form_row.Row.{Row}
use Rattle.trace_explain.specs.declared.read.form_row.Saying.{Saying}
use Rattle.trace_explain.specs.declared.read.form_row.Saying.TheVariants as saying
use Rattle.trace_explain.specs.declared.read.trace_line.LineFault.{LineFault}
use Rattle.trace_explain.specs.declared.read.trace_line.LineFault.TheVariants as bad
use Rattle.trace_explain.specs.Times.{behind_spaces, behind_time_of, place_of}

abbrev pub is_in : ℕ → ℕ → ℕ → Bool
is_in first last b = nat_le first b && nat_le b last

-- The byte of two digits, in either case. A short one has a space in place of the second.
abbrev pub byte_of : Option ℕ → Option ℕ → Option ℕ
byte_of None low = None
byte_of (Some high) None = None
byte_of (Some high) (Some low) = Some (high * 16 + low)

abbrev pub byte_at : Bool → ℕ → ℕ → Option ℕ
byte_at is_short high low = if is_short && (low == 32) then hex_digit_value high
    else byte_of (hex_digit_value high) (hex_digit_value low)

-- The place behind the next character of digits.
abbrev pub next_spot : Spot → ℕ → Spot
next_spot Between b = if b == 32 then Between else Within b
next_spot Behind b = if b == 58 then Bound else if (b == 32) || (b == 44) then Between else Within b
next_spot Bound b = Within b
next_spot (Within high) b = if b == 32 then Between else Behind

-- A byte may begin here.
abbrev pub begins : Spot → Bool
begins Between = true
begins Behind = true
begins other = false

-- The bytes that digits spell: any spaces between them, or right behind a byte a comma or a colon;
-- `0x` may precede a byte. If it is short, the last one may have one digit and a space. These bytes
-- precede them.
abbrev pub spelled_from : Bool → List ℕ → Spot → List ℕ → Option (List ℕ)
spelled_from is_short bytes Between [] = Some bytes
spelled_from is_short bytes Behind [] = Some bytes
spelled_from is_short bytes Bound [] = None
spelled_from is_short bytes (Within high) [] = None
spelled_from is_short bytes (Within high) (b ∷ rest) =
    if (high == 48) && (b == 120) then spelled_from is_short bytes Bound rest
    else elim (byte_at (is_short && (length rest == 0)) high b) [
      | None ↦ None
      | Some byte ↦ spelled_from is_short (bytes ++ byte ∷ []) (next_spot (Within high) b) rest
    ]
spelled_from is_short bytes Between (b ∷ rest) =
    spelled_from is_short bytes (next_spot Between b) rest
spelled_from is_short bytes Behind (b ∷ rest) =
    spelled_from is_short bytes (next_spot Behind b) rest
spelled_from is_short bytes Bound (b ∷ rest) = spelled_from is_short bytes (Within b) rest

abbrev pub spelled : Bool → List ℕ → Option (List ℕ)
spelled is_short digits = spelled_from is_short [] Between digits

abbrev pub bytes_in : List ℕ → Option (List ℕ)
bytes_in digits = spelled false digits

-- Why a field is refused: it does not spell what its part marks.
abbrev pub IsBadField : {T : Type 0} → LineFault → Option T → Type 0
IsBadField bad.Hex found = found ≡ None
IsBadField bad.OutOfMemory found = Unit {0}
IsBadField other found = ⊥

-- The rest of a line contains digits and spaces alone, and the line begins with a digit.
abbrev pub is_digits_from : Bool → List ℕ → Bool
is_digits_from has_digit [] = has_digit
is_digits_from has_digit (b ∷ line) = if is_hex_digit b then is_digits_from true line
    else if (b == 32) && has_digit then is_digits_from has_digit line else false

abbrev pub is_digits : List ℕ → Bool
is_digits line = is_digits_from false line

-- A word ends if no letter or digit follows.
abbrev pub ends_word : List ℕ → Bool
ends_word [] = true
ends_word (b ∷ rest) = not (is_in 48 57 b || is_in 65 90 b || is_in 97 122 b)

abbrev pub has_gap : List ℕ → Bool
has_gap [] = true
has_gap (b ∷ rest) = b == 32

-- What pcscd writes before its text: a thread number, the codes of colours.
abbrev pub is_of_prefix : ℕ → Bool
is_of_prefix b = is_in 48 57 b || (b == 32) || (b == 91) || (b == 93) || (b == 59) || (b == 109)
    || (b == 27)

abbrev pub behind_prefix : List ℕ → List ℕ
behind_prefix [] = []
behind_prefix (b ∷ line) = if is_of_prefix b then behind_prefix line else b ∷ line

-- A number of at most seven decimal digits.
abbrev pub number_from : ℕ → List ℕ → Option ℕ
number_from n [] = Some n
number_from n (d ∷ digits) = if nat_lt 999999 n || not (is_in 48 57 d) then None
    else number_from (n * 10 + (d - 48)) digits

abbrev pub number_in : List ℕ → Option ℕ
number_in [] = None
number_in (d ∷ digits) = number_from 0 (d ∷ digits)

-- The number of bytes before two spaces.
abbrev pub begins_space : List ℕ → Bool
begins_space [] = false
begins_space (b ∷ line) = b == 32

abbrev pub column : List ℕ → ℕ
column [] = 0
column (b ∷ line) = if (b == 32) && begins_space line then 0 else 1 + column line

abbrev pub dump : List ℕ → ℕ
dump line = column (take (min (length line) 48) line)

-- A field at the beginning of a line, up to its stop or the end, and what follows it.
abbrev pub field_len : Stop → List ℕ → ℕ
field_len stop.End line = length line
field_len (stop.Before byte) line = place_of byte line
field_len stop.Column line = column line
field_len stop.Dump line = dump line

abbrev pub field : Stop → List ℕ → List ℕ
field stop line = take (field_len stop line) line

abbrev pub behind_field : Stop → List ℕ → List ℕ
behind_field stop line = drop (field_len stop line) line

-- A row of a dump: 16 bytes, or all if fewer are left, with a space behind each.
abbrev pub row : ℕ → ℕ
row left = min left 16

abbrev pub of_count : ℕ → Option (List ℕ) → Option (List ℕ)
of_count n None = None
of_count n (Some bytes) = if length bytes == n then Some bytes else None

abbrev pub row_in : ℕ → List ℕ → Option (List ℕ)
row_in count line = if nat_lt (length line) (3 * count) then None
    else of_count count (spelled false (take (3 * count) line))

abbrev pub behind_row : ℕ → List ℕ → Option (List ℕ)
behind_row count line =
    if nat_lt (length line) (3 * count) then None else Some (drop (3 * count) line)

-- What follows a part at the beginning of a line, if the line begins with it. This many bytes are
-- left of a dump.
abbrev pub some_if : Bool → List ℕ → Option (List ℕ)
some_if true line = Some line
some_if false line = None

abbrev pub behind : Part → ℕ → List ℕ → Option (List ℕ)
behind (part.Is wanted) left [] = None
behind (part.Is wanted) left (b ∷ line) = some_if (b == wanted) line
behind part.WordEnd left line = some_if (ends_word line) line
behind part.Gap left line = some_if (has_gap line) line
behind part.Spaces left line = Some (behind_spaces line)
behind part.Time left line = Some (behind_time_of line)
behind part.Prefix left line = Some (behind_prefix line)
behind (part.Any stop) left line = Some (behind_field stop line)
behind (part.Bytes stop) left line = Some (behind_field stop line)
behind (part.Short stop) left line = Some (behind_field stop line)
behind (part.Status stop) left line = Some (behind_field stop line)
behind (part.Count stop) left line = Some (behind_field stop line)
behind part.Row left line = if left == 0 then None else behind_row (row left) line
behind part.Zeros left line = some_if (nat_lt 0 left) line
behind (part.Skip count) left line = behind_row count line
behind (part.More count) left line = Some line

abbrev pub begun : List Part → List ℕ → Option (List ℕ)
begun [] line = Some line
begun (part ∷ parts) line = elim (behind part 0 line) [
  | None ↦ None
  | Some rest ↦ begun parts rest
]

-- What parts mark: bytes, and those behind them, as a status; how many bytes the next lines have;
-- and with how many bytes the next line may continue these, or 0.
pub record Marked : Type 0 where
  pub bytes : List ℕ
  pub status : List ℕ
  pub count : ℕ
  pub goes_on : ℕ

abbrev pub marked_by : Marks → Marked
marked_by m = record {
  bytes = m.bytes.items;
  status = m.status.items;
  count = m.count;
  goes_on = m.goes_on;
}

abbrev pub unmarked : Marked
unmarked = record { bytes = []; status = []; count = 0; goes_on = 0 }

-- These, and what the field of a part spells.
abbrev pub with_bytes : Marked → Option (List ℕ) → Option Marked
with_bytes m None = None
with_bytes m (Some bytes) = Some (record m { bytes = m.bytes ++ bytes })

abbrev pub with_status : Marked → Option (List ℕ) → Option Marked
with_status m None = None
with_status m (Some status) = Some (record m { status = m.status ++ status })

abbrev pub with_count : Marked → Option ℕ → Option Marked
with_count m None = None
with_count m (Some count) = Some (record m { count = count })

abbrev pub marked : Part → ℕ → List ℕ → Marked → Option Marked
marked (part.Bytes stop) left line m = with_bytes m (spelled false (field stop line))
marked (part.Short stop) left line m = with_bytes m (spelled true (field stop line))
marked part.Row left line m = with_bytes m (row_in (row left) line)
marked part.Zeros left line m = with_bytes m (Some (replicate left 0))
marked (part.Status stop) left line m = with_status m (spelled false (field stop line))
marked (part.Count stop) left line m = with_count m (number_in (field stop line))
marked (part.More count) left line m = Some (record m { goes_on = count })
marked other left line m = Some m

-- All bytes that are marked, in turn.
abbrev pub all_of : Marked → List ℕ
all_of m = m.bytes ++ m.status

-- What these parts mark if they are the whole line.
abbrev pub marks_from : List Part → ℕ → List ℕ → Marked → Option Marked
marks_from [] left [] m = Some m
marks_from [] left (b ∷ line) m = None
marks_from (part ∷ parts) left line m = elim (marked part left line m) [
  | None ↦ None
  | Some more ↦ elim (behind part left line) [
    | None ↦ None
    | Some rest ↦ marks_from parts left rest more
  ]
]

abbrev pub marks_in : List Part → ℕ → List ℕ → Option Marked
marks_in parts left line = marks_from parts left line unmarked

-- How rows read a line: the first row that is the whole line decides. Without such a
-- row, a line that begins with the text of a row with bytes can't be read.
pub data ReadsAs : Type 0 where
  NoRow : ReadsAs
  BadRow : ReadsAs
  Found : ℕ → Saying → Marked → ReadsAs

abbrev pub has_bytes : Saying → Bool
has_bytes (saying.Sends from) = true
has_bytes saying.Both = true
has_bytes saying.Apart = true
has_bytes other = false

abbrev pub commits : Row → Bool
commits row = has_bytes row.says && not (length row.head.items == 0)

abbrev pub reads_in : Bool → List Row → ℕ → List ℕ → ReadsAs
reads_in is_bad [] left line = if is_bad then BadRow else NoRow
reads_in is_bad (row ∷ rows) left line = elim (begun row.head.items line) [
  | None ↦ reads_in is_bad rows left line
  | Some rest ↦ elim (marks_in row.tail.items left rest) [
    | None ↦ reads_in (is_bad || commits row) rows left line
    | Some m ↦ Found row.form row.says m
  ]
]

abbrev pub reads : List Row → ℕ → List ℕ → ReadsAs
reads rows left line = reads_in false rows left line

abbrev pub reads_as : RowFound → ReadsAs
reads_as found.Other = NoRow
reads_as found.Unread = BadRow
reads_as (found.Row form says m) = Found form says (marked_by m)
