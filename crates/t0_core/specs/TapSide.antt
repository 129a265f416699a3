-- A tap, which hears both ends: its progress, and the fronts of dialogues at which it is.
use Rattle.std.specs.Prelude.{◌≡◌, ℕ, ◌+◌, ◌-◌, ◌<◌, ◌≤◌, ◌⊎◌, List, [], ◌∷◌, ◌++◌, length, Option, Some, None, Bool, true, false, ◌==◌, not, nat_lt, if◌then◌else◌, codes}
use Rattle.std.specs.List.{AllByRecursion}
use Rattle.apdu_core.specs.HeaderBytes.{ins_is_valid}
use Rattle.apdu_core.specs.StatusWord.{IsStatusWord, is_first_status}
use Rattle.t0_core.specs.declared.end.End.{End}
use Rattle.t0_core.specs.declared.end.End.TheVariants.{Terminal, Card}
use Rattle.t0_core.specs.declared.direction.Direction.{Direction}
use Rattle.t0_core.specs.declared.direction.Direction.TheVariants.{ToCard, FromCard}
use Rattle.t0_core.specs.declared.plan.Step.{Step}
use Rattle.t0_core.specs.declared.plan.Step.TheVariants.{Null}
use Rattle.t0_core.specs.declared.heard.Said.{Said}
use Rattle.t0_core.specs.declared.heard.Heard.{Heard}
use Rattle.t0_core.specs.declared.heard.Heard.TheVariants as heard
use Rattle.t0_core.specs.declared.heard.Due.{Due}
use Rattle.t0_core.specs.declared.heard.Due.TheVariants as due
use Rattle.t0_core.specs.declared.tap_fault.TapFault.{TapFault}
use Rattle.t0_core.specs.declared.tap_fault.TapFault.TheVariants.{OutOfTurn, BadProcedure}
use Rattle.t0_core.specs.Character.{Character}
use Rattle.t0_core.specs.Dialogue.{Body, Dialogue, foreseen, moves, to_move}
use Rattle.t0_core.specs.Front.{Front, In_header, In_body, After_first, front_characters, GoesOn, Ends, IsBetween, IsFront, with_segment, with_moved}
use Rattle.t0_core.specs.HostSide.{step_of}

-- The progress of a tap: some of CLA INS P1 P2 P3; before a procedure byte or SW1; inside data,
-- which move up to a number; or after SW1.
pub data Place : Type 0 where
  In_opening : (bytes : List ℕ) → Place
  Between : (said : Said) → Place
  In_data : (said : Said) (until : ℕ) → Place
  After_sw1 : (said : Said) (sw1 : ℕ) → Place

-- before the first character of a dialogue
abbrev pub afresh : Place
afresh = In_opening []

-- The first data character shows the direction.
abbrev pub Shows : Option Direction → Direction → List ℕ → Type 0
Shows None direction moved = moved ≡ []
Shows (Some seen) direction moved = (seen ≡ direction) × (0 < length moved)

-- P3 00 states no data to the card, where INS and INS xor FF would move nothing, and 256 from it. A
-- tap takes these bytes for the start of data from the card. So of the dialogues to the card with
-- P3 00 it reads only those with NULLs alone.
abbrev pub IsRead : Body → Type 0
IsRead b = b.direction ≡ ToCard → b.p3 ≡ 0 → AllByRecursion (λ s. s ≡ Null) b.segments

abbrev pub IsReadFront : Front → Type 0
IsReadFront (In_header bytes) = Unit {0}
IsReadFront (In_body b) = IsRead b
IsReadFront (After_first b sw1) = IsRead b

-- this is the tap's state of a TPDU with these characters
pub record SaysSo (said : Said) (b : Body) : Type 0 where
  pub header_is : b.header ≡ said.header
  pub p3_is : b.p3 ≡ said.p3
  pub shows : Shows said.direction b.direction b.moved
  pub moved_is : length b.moved ≡ said.moved
  pub is_read : IsRead b

-- The tap is at this front of a dialogue. While nobody has seen the direction of the data, it is at
-- the fronts of both directions.
abbrev pub TapStandsAt : Place → Front → Type 0
TapStandsAt (In_opening bytes) (In_header heard) = (heard ≡ bytes) × (length bytes < 5)
TapStandsAt (Between said) (In_body b) = SaysSo said b × IsBetween b
TapStandsAt (In_data said until) (In_body b) = SaysSo said b × (said.moved < until)
    × (to_move b ≡ until)
TapStandsAt (After_sw1 said sw1) (After_first b first) = SaysSo said b × (first ≡ sw1)
    × IsBetween b
TapStandsAt _ _ = ⊥

-- the direction of data that an end sends
abbrev pub direction_from : End → Direction
direction_from Terminal = ToCard
direction_from Card = FromCard

-- the number of data characters that P3 states, as the tap reads it
abbrev pub foreseen_by : Option Direction → ℕ → ℕ
foreseen_by None p3 = foreseen FromCard p3
foreseen_by (Some seen) p3 = foreseen seen p3

-- with P3 00 data come from the card
abbrev pub way_of : Option Direction → ℕ → Option Direction
way_of None p3 = if p3 == 0 then Some FromCard else None
way_of (Some seen) p3 = Some seen

-- the kind of character that continues a dialogue
abbrev pub due_at : Place → Due
due_at (In_opening bytes) = due.Header
due_at (Between said) = due.Procedure
due_at (In_data said until) = due.Data (way_of said.direction said.p3)
due_at (After_sw1 said sw1) = due.SecondStatus

abbrev pub is_terminal : End → Bool
is_terminal Terminal = true
is_terminal Card = false

abbrev pub goes_this_way : Direction → End → Bool
goes_this_way ToCard from = is_terminal from
goes_this_way FromCard from = not (is_terminal from)

abbrev pub may_come_from : Due → End → Bool
may_come_from due.Header from = is_terminal from
may_come_from due.Procedure from = not (is_terminal from)
may_come_from (due.Data None) from = true
may_come_from (due.Data (Some direction)) from = goes_this_way direction from
may_come_from due.SecondStatus from = not (is_terminal from)

-- the step that a byte starts as a procedure byte, if it is one; if INS is invalid only NULL is one
abbrev pub begun_by : ℕ → ℕ → Option Step
begun_by ins byte =
    if ins_is_valid ins then step_of ins byte else (if byte == 0x60 then Some Null else None)

-- the error of a byte of the card that is neither a procedure byte nor SW1
abbrev pub tap_procedure_fault : Option Step → ℕ → Option TapFault
tap_procedure_fault (Some step) byte = None
tap_procedure_fault None byte = if is_first_status byte then None else Some BadProcedure

abbrev pub tap_byte_fault : Place → ℕ → Option TapFault
tap_byte_fault (In_opening bytes) byte = None
tap_byte_fault (Between said) byte = tap_procedure_fault (begun_by said.header.ins byte) byte
tap_byte_fault (In_data said until) byte = None
tap_byte_fault (After_sw1 said sw1) byte = None

-- why a character is refused, if it is
abbrev pub tap_fault_at : Place → End → ℕ → Option TapFault
tap_fault_at place from byte =
    if may_come_from (due_at place) from then tap_byte_fault place byte else Some OutOfTurn

abbrev pub other_end : End → End
other_end Terminal = Card
other_end Card = Terminal

-- it is this end's turn: from this front a dialogue that the tap reads continues or ends with one
-- of its characters
abbrev pub HasTurn : End → Front → Type 0
HasTurn from front = (byte : ℕ) × (byte < 256)
    × (((new : Front) × GoesOn front (from, byte) new × IsReadFront new)
    ⊎ ((d : Dialogue) × Ends front (from, byte) d))

-- the place after a character that the tap takes
abbrev pub moved_to : Said → ℕ → Place
moved_to said until = if nat_lt said.moved until then In_data said until else Between said

abbrev pub begun_at : Option Step → Said → ℕ → Place
begun_at (Some step) said byte =
    moved_to said (said.moved + moves step (foreseen_by said.direction said.p3 - said.moved))
begun_at None said byte = After_sw1 said byte

abbrev pub with_one_more : Said → End → Said
with_one_more said from =
    record said { direction = Some (direction_from from); moved = said.moved + 1 }

abbrev pub after_opening : List ℕ → Place
after_opening (cla ∷ ins ∷ p1 ∷ p2 ∷ p3 ∷ []) = Between (record {
  header = record { cla = cla; ins = ins; p1 = p1; p2 = p2 };
  p3 = p3;
  direction = None;
  moved = 0;
})
after_opening bytes = In_opening bytes

abbrev pub after_hearing : Place → End → ℕ → Place
after_hearing (In_opening bytes) from byte = after_opening (bytes ++ byte ∷ [])
after_hearing (Between said) from byte = begun_at (begun_by said.header.ins byte) said byte
after_hearing (In_data said until) from byte = moved_to (with_one_more said from) until
after_hearing (After_sw1 said sw1) from byte = afresh

-- and what the character was
abbrev pub heard_procedure : Option Step → Heard
heard_procedure (Some step) = heard.Procedure step
heard_procedure None = heard.FirstStatus

abbrev pub heard_at : Place → End → ℕ → Heard
heard_at (In_opening bytes) from byte = heard.Header
heard_at (Between said) from byte = heard_procedure (begun_by said.header.ins byte)
heard_at (In_data said until) from byte = heard.Data (direction_from from)
heard_at (After_sw1 said sw1) from byte = heard.SecondStatus said (sw1, byte)

-- What a character was is what it adds to the front: a header character, a segment, a data
-- character, or SW1.
abbrev pub Makes : Heard → Front → Character → Front → Type 0
Makes heard.Header front c new = (bytes : List ℕ) × (front ≡ In_header bytes)
Makes (heard.Procedure step) front c new =
    (b : Body) × (front ≡ In_body b) × (new ≡ In_body (with_segment b step))
Makes (heard.Data direction) front c new = (b : Body) × (front ≡ In_body b)
    × (b.direction ≡ direction) × (new ≡ In_body (with_moved b c.1))
Makes heard.FirstStatus front c new =
    (b : Body) × (front ≡ In_body b) × (new ≡ After_first b c.1)
Makes (heard.SecondStatus said status) front c new = ⊥

-- SW2 ends the dialogue: its TPDU and its status
abbrev pub Concludes : Heard → Dialogue → Type 0
Concludes (heard.SecondStatus said status) d = SaysSo said d.body × (d.status ≡ status)
Concludes _ _ = ⊥

-- From this front the dialogue continues or ends with the character, and the tap follows.
abbrev pub TakesOn : Heard → Front → Character → Place → Type 0
TakesOn heard front c place =
    ((new : Front) × GoesOn front c new × Makes heard front c new × TapStandsAt place new)
    ⊎ ((d : Dialogue) × Ends front c d × Concludes heard d × (place ≡ afresh))

-- the same front with data in this direction
abbrev pub turned_body : Direction → Body → Body
turned_body way b = record b { direction = way }

abbrev pub turned : Direction → Front → Front
turned way (In_header bytes) = In_header bytes
turned way (In_body b) = In_body (turned_body way b)
turned way (After_first b sw1) = After_first (turned_body way b) sw1

-- The same, from this front or from the one with the same characters and data in the other
-- direction.
pub record Takes (heard : Heard) (front : Front) (c : Character) (place : Place) : Type 0 where
  pub way : Direction
  pub same : front_characters (turned way front) ≡ front_characters front
  pub is_front : IsFront front → IsFront (turned way front)
  pub goes : TakesOn heard (turned way front) c place

-- the ranges of a place
abbrev pub IsSaid : Said → Type 0
IsSaid said = (said.header.ins < 256) × (said.p3 < 256)
    × (said.moved ≤ foreseen_by said.direction said.p3) × (said.direction ≡ None → said.moved ≡ 0)

abbrev pub IsPlace : Place → Type 0
IsPlace (In_opening bytes) = length bytes < 5
IsPlace (Between said) = IsSaid said
IsPlace (In_data said until) = IsSaid said × (said.moved < until)
    × (until ≤ foreseen_by said.direction said.p3)
IsPlace (After_sw1 said sw1) = IsSaid said × IsStatusWord (sw1, 0)

-- the texts of errors
abbrev pub tap_fault_text : TapFault → List ℕ
tap_fault_text OutOfTurn = codes "character out of turn"
tap_fault_text BadProcedure = codes "bad procedure byte"
