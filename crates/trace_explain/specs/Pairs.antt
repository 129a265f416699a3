-- A command and its answer in a log of PC/SC, and the TPDU that they are.
use Rattle.std.specs.Prelude.{◌≡◌, ◌≤◌, ◌<◌, ℕ, ◌+◌, ◌-◌, List, [], ◌∷◌, ◌++◌, take, drop, length, slice_index, Option, Some, None, Bool, true, false, ◌==◌, ◌&&◌, ◌||◌, not, nat_le, nat_lt, if◌then◌else◌}
use Rattle.apdu_core.specs.StatusWord.{count}
use Rattle.t0_core.specs.declared.direction.Direction.{Direction}
use Rattle.t0_core.specs.declared.direction.Direction.TheVariants.{ToCard, FromCard}
use Rattle.trace_explain.specs.declared.follow.pair.PairFault.{PairFault}
use Rattle.trace_explain.specs.declared.follow.pair.PairFault.TheVariants as bad
use Rattle.trace_explain.specs.declared.follow.tpdu.Tpdu.{Tpdu}
use Rattle.trace_explain.specs.Noted.{are_status}
use Rattle.trace_explain.specs.Reports.{uncounted}
use Rattle.trace_explain.specs.Secrets.{brings_none}

-- A short command (ISO/IEC 7816-4, 5.1): CLA INS P1 P2 P3, the terminal's data, and perhaps Le.
pub record Command : Type 0 where
  pub header : List ℕ
  pub sent : List ℕ
  pub le : Option ℕ

abbrev pub command_of : List ℕ → ℕ → List ℕ → Option ℕ → Option Command
command_of header p3 sent le =
    Some (record { header = header ++ p3 ∷ []; sent = sent; le = le })

-- P3 is Le if nothing follows (case 2), else Lc, not 00: as many data follow (3), perhaps Le (4).
abbrev pub with_p3 : List ℕ → ℕ → List ℕ → Option Command
with_p3 header p3 rest = if length rest == 0 then command_of header p3 [] None
    else if p3 == 0 then None
    else if length rest == p3 then command_of header p3 rest None
    else if length rest == p3 + 1
    then command_of header p3 (take p3 rest) (Some (slice_index rest p3))
    else None

-- CLA INS P1 P2 alone (case 1) have P3 00 (ISO/IEC 7816-3, 12.2).
abbrev pub command_in : List ℕ → Option Command
command_in command = if nat_lt (length command) 4 then None
    else if length command == 4 then command_of command 0 [] None
    else with_p3 (take 4 command) (slice_index command 4) (drop 5 command)

-- Extended length fields: 00 in the place of P3, and at least two bytes after it.
abbrev pub is_extended : List ℕ → Bool
is_extended command = nat_lt 6 (length command) && (slice_index command 4 == 0)

-- An answer: data of the card, and then SW1-SW2.
abbrev pub data_in : List ℕ → List ℕ
data_in answer = take (length answer - 2) answer

abbrev pub status_in : List ℕ → List ℕ
status_in answer = drop (length answer - 2) answer

-- Which way data moved. If both ends sent some, the terminal's count, and the card's are beside.
abbrev pub way_of : List ℕ → List ℕ → Option Direction
way_of [] [] = None
way_of [] (b ∷ brought) = Some FromCard
way_of (b ∷ sent) brought = Some ToCard

abbrev pub moved_of : List ℕ → List ℕ → List ℕ
moved_of [] brought = brought
moved_of (b ∷ sent) brought = b ∷ sent

abbrev pub beside : List ℕ → List ℕ → List ℕ
beside [] brought = []
beside (b ∷ sent) brought = brought

-- The TPDU is the command, these data of the card and this status, without procedure bytes.
pub record ReportsPair (c : Command) (brought status : List ℕ) (t : Tpdu) : Type 0 where
  pub header_is : t.header.items ≡ c.header
  pub tally_is : t.tally ≡ uncounted
  pub way_is : t.way ≡ way_of c.sent brought
  pub moved_is : t.moved.items ≡ moved_of c.sent brought
  pub status_is : t.status.items ≡ status
  pub beside_is : t.answer.items ≡ beside c.sent brought
  pub le_is : t.le ≡ c.le

-- The TPDU of a command without an answer.
abbrev pub IsCommand : List ℕ → Tpdu → Type 0
IsCommand command t =
    (c : Command) × (command_in command ≡ Some c) × ReportsPair c [] [] t

-- How many bytes a command asks for at most, if it has Le: in five bytes that is P3, and 00 is 256.
abbrev pub le_of : List ℕ → Command → Option ℕ
le_of command c = if length command == 5 then Some (slice_index command 4) else c.le

abbrev pub asks_for : Option ℕ → ℕ → Bool
asks_for None came = true
asks_for (Some le) came = nat_le came (count le)

-- The length fields and data of a short command have Le: alone, or behind the data.
abbrev pub has_le : List ℕ → Bool
has_le [] = false
has_le (p3 ∷ rest) = (length rest == 0) || nat_lt p3 (length rest)

-- In a log: the answer has data, and the command neither has Le nor ever brings any.
abbrev pub is_unasked : List ℕ → List ℕ → Bool
is_unasked (cla ∷ ins ∷ p1 ∷ p2 ∷ lengths) answer =
    nat_lt 2 (length answer) && not (has_le lengths) && brings_none cla ins
is_unasked other answer = false

-- The TPDU of a command with its answer, which has no more data than Le asks for.
abbrev pub IsPair : List ℕ → List ℕ → Tpdu → Type 0
IsPair command answer t = (c : Command) × (command_in command ≡ Some c)
    × ReportsPair c (data_in answer) (status_in answer) t
    × (are_status (status_in answer) ≡ true)
    × (asks_for (le_of command c) (length (data_in answer)) ≡ true)

-- The pair is no TPDU, whatever memory there is.
abbrev pub is_refusal : PairFault → Bool
is_refusal bad.OutOfMemory = false
is_refusal other = true

-- Why a command is not a short one.
abbrev pub IsBadCommand : PairFault → List ℕ → Type 0
IsBadCommand bad.Short command = length command < 4
IsBadCommand bad.Extended command = is_extended command ≡ true
IsBadCommand bad.Length command =
    (4 ≤ length command) × (is_extended command ≡ false) × (command_in command ≡ None)
IsBadCommand bad.NoStatus command = ⊥
IsBadCommand bad.TooMany command = ⊥
IsBadCommand bad.Unasked command = ⊥
IsBadCommand bad.OutOfMemory command = Unit {0}

abbrev pub IsBadRest : PairFault → List ℕ → ℕ → List ℕ → Type 0
IsBadRest bad.Length header p3 rest = with_p3 header p3 rest ≡ None
IsBadRest bad.OutOfMemory header p3 rest = Unit {0}
IsBadRest other header p3 rest = ⊥

-- Why a pair is refused: for its command, or because the answer does not end with a status, or has
-- more data than Le asks for.
abbrev pub IsBadPair : PairFault → List ℕ → List ℕ → Type 0
IsBadPair bad.NoStatus command answer =
    ((c : Command) × (command_in command ≡ Some c)) × (are_status (status_in answer) ≡ false)
IsBadPair bad.TooMany command answer = (c : Command) × (command_in command ≡ Some c)
    × (are_status (status_in answer) ≡ true)
    × (asks_for (le_of command c) (length (data_in answer)) ≡ false)
IsBadPair other command answer = IsBadCommand other command
