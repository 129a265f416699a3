-- The terminal's end of a TPDU: its progress, and the fronts of dialogues at which it is.
use Rattle.std.specs.Prelude.{◌≡◌, ℕ, ◌+◌, ◌-◌, ◌<◌, ◌≤◌, List, [], ◌∷◌, ◌++◌, length, take, Option, Some, None, true, ◌==◌, nat_lt, slice_index, if◌then◌else◌}
use Rattle.apdu_core.specs.declared.header.Header.{Header}
use Rattle.apdu_core.specs.HeaderBytes.{header_bytes, ins_is_valid}
use Rattle.apdu_core.specs.StatusWord.{IsStatusWord, is_first_status}
use Rattle.t0_core.specs.declared.line_fault.LineFault.{LineFault}
use Rattle.t0_core.specs.declared.line_fault.LineFault.TheVariants.{BadProcedure, AfterEnd, TooLong, Stalled, NotListening}
use Rattle.t0_core.specs.declared.host_end.HostStage.{HostStage}
use Rattle.t0_core.specs.declared.host_end.HostTurn.{HostTurn}
use Rattle.t0_core.specs.declared.host_end.HostTurn.TheVariants.{Sends, Listens, Done, Failed}
use Rattle.t0_core.specs.declared.host_end.HostStage.TheVariants.{SendingHeader, Awaiting, Moving, AwaitingSecond, Ended, Broken}
use Rattle.t0_core.specs.declared.plan.Step.{Step}
use Rattle.t0_core.specs.declared.plan.Step.TheVariants.{Null, One, All}
use Rattle.t0_core.specs.declared.direction.Direction.{Direction}
use Rattle.t0_core.specs.declared.direction.Direction.TheVariants.{ToCard, FromCard}
use Rattle.t0_core.specs.Dialogue.{Body, Dialogue, foreseen, moves, procedure_byte, to_move}
use Rattle.t0_core.specs.declared.data_sent.DataSent.{DataSent}
use Rattle.t0_core.specs.declared.data_sent.DataSent.TheVariants.{NotKnown}
use Rattle.t0_core.specs.DataSent.{sent_by_now, sent_in, Tells}
use Rattle.t0_core.specs.Meaning.{received}
use Rattle.t0_core.specs.Front.{Front, In_header, In_body, After_first, IsBetween, brought}
use Rattle.t0_core.specs.Room.{Room}

-- an end that opened a TPDU; its data to the card, none if it asks for data
pub record Hosting : Type 0 where
  pub header : Header
  pub p3 : ℕ
  pub direction : Direction
  pub content : List ℕ
  pub stage : HostStage

abbrev pub at_stage : Hosting → HostStage → Hosting
at_stage host stage =
    record {
      header = host.header;
      p3 = host.p3;
      direction = host.direction;
      content =
          host.content;
      stage = stage;
    }

-- the data moved to the card are the first of the end's own
abbrev pub AreOwn : Direction → List ℕ → List ℕ → Type 0
AreOwn ToCard content moved = moved ≡ take (length moved) content
AreOwn FromCard content moved = Unit {0}

-- the dialogue is one that this end opened
abbrev pub IsOpenedBy : Hosting → Body → Type 0
IsOpenedBy host b = (b.header ≡ host.header) × (b.p3 ≡ host.p3) × (b.direction ≡ host.direction)
    × AreOwn host.direction host.content b.moved

-- The end is at this front of a dialogue: in the header; between segments; in a segment, which
-- moves data up to a number; or after SW1.
abbrev pub HostStandsAt : Hosting → Front → Type 0
HostStandsAt host front = At host.stage front where
  At : HostStage → Front → Type 0
  At (SendingHeader sent) (In_header bytes) =
      (sent < 5) × (bytes ≡ take sent (header_bytes host.header ++ host.p3 ∷ []))
  At (Awaiting moved) (In_body b) = IsOpenedBy host b × IsBetween b × (length b.moved ≡ moved)
  At (Moving moved until) (In_body b) = IsOpenedBy host b × (length b.moved ≡ moved)
      × (moved < until) × (to_move b ≡ until)
  At (AwaitingSecond sw1 sent) (After_first b first) =
      IsOpenedBy host b × (first ≡ sw1) × Tells sent (sent_in b)
  At (SendingHeader sent) (In_body b) = ⊥
  At (SendingHeader sent) (After_first b first) = ⊥
  At (Awaiting moved) (In_header bytes) = ⊥
  At (Awaiting moved) (After_first b first) = ⊥
  At (Moving moved until) (In_header bytes) = ⊥
  At (Moving moved until) (After_first b first) = ⊥
  At (AwaitingSecond sw1 sent) (In_header bytes) = ⊥
  At (AwaitingSecond sw1 sent) (In_body b) = ⊥
  At (Ended status sent) front = ⊥
  At Broken front = ⊥

-- what it does while data move
abbrev pub data_turn : Direction → List ℕ → ℕ → HostTurn
data_turn ToCard content moved = Sends (slice_index content moved)
data_turn FromCard content moved = Listens

-- what it does next
abbrev pub turn_of : Hosting → HostTurn
turn_of host = Turn host.stage where
  Turn : HostStage → HostTurn
  Turn (SendingHeader sent) = Sends (slice_index (header_bytes host.header ++ host.p3 ∷ []) sent)
  Turn (Awaiting moved) = Listens
  Turn (Moving moved until) = data_turn host.direction host.content moved
  Turn (AwaitingSecond sw1 sent) = Listens
  Turn (Ended status sent) = Done status
  Turn Broken = Failed

-- the data character of its own that it sends next, if any
abbrev pub own_due : Direction → List ℕ → ℕ → Option ℕ
own_due ToCard content moved = Some (slice_index content moved)
own_due FromCard content moved = None

abbrev pub data_due : Hosting → Option ℕ
data_due host = Due host.stage where
  Due : HostStage → Option ℕ
  Due (SendingHeader sent) = None
  Due (Awaiting moved) = None
  Due (Moving moved until) = own_due host.direction host.content moved
  Due (AwaitingSecond sw1 sent) = None
  Due (Ended status sent) = None
  Due Broken = None

-- the data of a segment move up to a number, or have all moved
abbrev pub moving : ℕ → ℕ → HostStage
moving moved until = if nat_lt moved until then Moving moved until else Awaiting moved

-- the stage after a data character that it sends; it waits for one of the card
abbrev pub after_data_turn : Direction → ℕ → ℕ → HostStage
after_data_turn ToCard moved until = moving (moved + 1) until
after_data_turn FromCard moved until = Moving moved until

abbrev pub after_turn : Hosting → HostStage
after_turn host = After host.stage where
  After : HostStage → HostStage
  After (SendingHeader sent) = if nat_lt sent 4 then SendingHeader (sent + 1) else Awaiting 0
  After (Awaiting moved) = Awaiting moved
  After (Moving moved until) = after_data_turn host.direction moved until
  After (AwaitingSecond sw1 sent) = AwaitingSecond sw1 sent
  After (Ended status sent) = Ended status sent
  After Broken = Broken

-- the step that a byte starts as a procedure byte of this INS, if it is one
abbrev pub step_of : ℕ → ℕ → Option Step
step_of ins byte =
    if byte == procedure_byte ins Null then Some Null
    else (if byte == procedure_byte ins All then Some All
    else (if byte == procedure_byte ins One then Some One else None))

-- instead of a procedure byte, a byte that is neither one nor SW1 is an error
abbrev pub procedure_fault : Option Step → ℕ → Option LineFault
procedure_fault (Some step) byte = None
procedure_fault None byte = if is_first_status byte then None else Some (BadProcedure byte)

-- while data move to the card, a character of the card is out of turn; data from the card need room
abbrev pub data_fault : Direction → Room → Option LineFault
data_fault ToCard gather = Some NotListening
data_fault FromCard gather = if length gather.bytes == gather.limit then Some TooLong else None

-- the error of a character, if any
abbrev pub fault_of : Hosting → Room → ℕ → Option LineFault
fault_of host gather byte = Fault host.stage where
  Fault : HostStage → Option LineFault
  Fault (SendingHeader sent) = Some NotListening
  Fault (Awaiting moved) = procedure_fault (step_of host.header.ins byte) byte
  Fault (Moving moved until) = data_fault host.direction gather
  Fault (AwaitingSecond sw1 sent) = None
  Fault (Ended status sent) = Some AfterEnd
  Fault Broken = Some AfterEnd

-- the stage after an error: a character that the end does not understand or has no room for breaks
-- it
abbrev pub after_fault : HostStage → LineFault → HostStage
after_fault stage (BadProcedure byte) = Broken
after_fault stage TooLong = Broken
after_fault stage Stalled = Broken
after_fault stage AfterEnd = stage
after_fault stage NotListening = stage

-- the stage after a procedure byte, if `remain` data characters are left, or after SW1, with what
-- is sent by then
abbrev pub after_procedure : Option Step → ℕ → ℕ → ℕ → DataSent → HostStage
after_procedure (Some step) moved remain byte sent = moving moved (moved + moves step remain)
after_procedure None moved remain byte sent = AwaitingSecond byte sent

-- the stage after a character that is not an error
abbrev pub after_taking : Hosting → ℕ → HostStage
after_taking host byte = After host.stage where
  After : HostStage → HostStage
  After (SendingHeader sent) = SendingHeader sent
  After (Awaiting moved) =
      after_procedure (step_of host.header.ins byte) moved (foreseen host.direction host.p3 - moved)
      byte (sent_by_now host.direction host.p3 moved)
  After (Moving moved until) = moving (moved + 1) until
  After (AwaitingSecond sw1 sent) = Ended (sw1, byte) sent
  After (Ended status sent) = Ended status sent
  After Broken = Broken

-- whether the end has sent all its data
abbrev pub data_sent : Hosting → DataSent
data_sent host = Sent host.stage where
  Sent : HostStage → DataSent
  Sent (SendingHeader sent) = sent_by_now host.direction host.p3 0
  Sent (Awaiting moved) = sent_by_now host.direction host.p3 moved
  Sent (Moving moved until) = sent_by_now host.direction host.p3 moved
  Sent (AwaitingSecond sw1 sent) = sent
  Sent (Ended status sent) = sent
  Sent Broken = NotKnown

-- the data in a character that is taken
abbrev pub data_in : HostStage → ℕ → List ℕ
data_in (SendingHeader sent) byte = []
data_in (Awaiting moved) byte = []
data_in (Moving moved until) byte = byte ∷ []
data_in (AwaitingSecond sw1 sent) byte = []
data_in (Ended status sent) byte = []
data_in Broken byte = []

-- the gather with those
abbrev pub gathered : Room → List ℕ → Room
gathered room bytes = record { bytes = room.bytes ++ bytes; limit = room.limit }

-- to the card, P3 states the number of the end's own data
abbrev pub AreForeseen : Direction → List ℕ → ℕ → Type 0
AreForeseen ToCard content p3 = length content ≡ p3
AreForeseen FromCard content p3 = content ≡ []

-- the ranges of a stage, if the TPDU has n data characters
abbrev pub IsStage : ℕ → HostStage → Type 0
IsStage n (SendingHeader sent) = sent < 5
IsStage n (Awaiting moved) = moved ≤ n
IsStage n (Moving moved until) = (moved < until) × (until ≤ n)
IsStage n (AwaitingSecond sw1 sent) = IsStatusWord (sw1, 0)
IsStage n (Ended status sent) = Unit {0}
IsStage n Broken = Unit {0}

-- the properties of an end that hold throughout its TPDU
abbrev pub IsRequest : Hosting → Type 0
IsRequest host = (ins_is_valid host.header.ins ≡ true) × (host.header.ins < 256)
    × AreForeseen host.direction host.content host.p3

abbrev pub IsInRange : Hosting → Type 0
IsInRange host = IsRequest host × IsStage (foreseen host.direction host.p3) host.stage

-- the data of a dialogue that are still to come fit into the gather
abbrev pub HasRoom : Room → Front → Dialogue → Type 0
HasRoom gather front d =
    (still : ℕ) → length (received d) ≡ length (brought front) + still
    → length gather.bytes + still ≤ gather.limit
