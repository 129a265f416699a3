-- Who sends a character: the end of a sign, or the one whose turn it is.
use Rattle.std.specs.Prelude.{ℕ, Option, Some, None, Bool, true, false, ◌==◌, nat_lt, length, get_or, is_some, if◌then◌else◌, Result, Ok, Err}
use Rattle.atr_core.specs.Conventions.{convention_of}
use Rattle.t0_core.specs.declared.direction.Direction.{Direction}
use Rattle.t0_core.specs.declared.direction.Direction.TheVariants.{ToCard, FromCard}
use Rattle.t0_core.specs.declared.end.End.{End}
use Rattle.t0_core.specs.declared.end.End.TheVariants.{Terminal, Card}
use Rattle.t0_core.specs.declared.heard.Due.{Due}
use Rattle.t0_core.specs.declared.heard.Due.TheVariants as due
use Rattle.t0_core.specs.TapSide.{due_at, other_end}
use Rattle.trace_explain.specs.declared.follow.listener.Listener.{Listener}
use Rattle.trace_explain.specs.declared.follow.opening.Stage.{Stage}
use Rattle.trace_explain.specs.declared.follow.opening.Stage.TheVariants as stage
use Rattle.trace_explain.specs.declared.follow.turn.TurnFault.{TurnFault}
use Rattle.trace_explain.specs.declared.follow.turn.TurnFault.TheVariants as unknown
use Rattle.trace_explain.specs.declared.read.reading.Reading.{Reading}
use Rattle.trace_explain.specs.declared.read.entry.Source.{Source}
use Rattle.trace_explain.specs.declared.read.entry.Source.TheVariants.{Sign, Turn}
use Rattle.trace_explain.specs.declared.read.ways.Ways.{Ways}
use Rattle.trace_explain.specs.Overheard.{Overheard}
use Rattle.trace_explain.specs.Openings.{Opening, has_answered, has_begun, turned_by}
use Rattle.trace_explain.specs.Reports.{Report, report_of}
use Rattle.trace_explain.specs.WaysOf.{way_of}

-- The card if this holds, otherwise the terminal.
abbrev pub card_if : Bool → End
card_if true = Card
card_if false = Terminal

-- After an answer or a PPS exchange, and between two TPDUs, `3B` and `3F` begin the card's answer.
-- They are not a class of a command (ISO/IEC 7816-4, 5.1.1). Any other character begins the
-- terminal's header.
abbrev pub between : ℕ → End
between b = card_if (is_some (convention_of b))

-- Before the dialogue. When the trace begins and after a reset, TS may also be turned (ISO/IEC
-- 7816-3, 8.1). Later `03` is a class, of channel 3. `FF` begins a PPS response (9.2). The end of
-- an invalid answer is unknown.
abbrev pub turn_before : Stage → Bool → ℕ → Result End TurnFault
turn_before stage.Ready true b = Ok (between b)
turn_before stage.Ready false b = Ok (card_if (is_some (turned_by b)))
turn_before stage.Answer answered b = Ok Card
turn_before stage.Astray answered b = Err unknown.Answer
turn_before stage.Request answered b = Ok Terminal
turn_before stage.Asked answered b = Ok (if b == 0xFF then Card else between b)
turn_before stage.Response answered b = Ok Card
turn_before stage.Begun answered b = Ok Terminal
turn_before stage.Blocks answered b = Ok Terminal

-- Data go as the first of them did, or as those of the instruction do if that is known. P3 `00`
-- asks the card for 256 bytes (ISO/IEC 7816-3, 10.3.2). If the data go to the card, it means no
-- data, and SW1 and SW2 follow INS.
abbrev pub data_at : Bool → Option Direction → Option Direction → ℕ → ℕ → Result End TurnFault
data_at true seen (Some FromCard) ins count = Ok Card
data_at true seen (Some ToCard) ins count = Ok (card_if (nat_lt count 2))
data_at false (Some FromCard) known ins count = Ok Card
data_at false (Some ToCard) known ins count = Ok Terminal
data_at false None (Some FromCard) ins count = Ok Card
data_at false None (Some ToCard) ins count = Ok Terminal
data_at p3_00 seen None ins count = Err (unknown.Way ins)

abbrev pub turn_beside : Option Overheard → Result End TurnFault → Result End TurnFault
turn_beside None before = before
turn_beside (Some o) before = Ok o.turn

-- In the dialogue, the terminal sends a whole header (10.3.2), and the card procedure bytes, SW1
-- and SW2 (10.3.3).
abbrev pub turn_within : Ways → Due → Report → ℕ → Result End TurnFault
turn_within ways due.Header t b = Ok (if length t.header == 0 then between b else Terminal)
turn_within ways due.Procedure t b = Ok Card
turn_within ways (due.Data seen) t b =
    data_at (get_or t.header 4 0 == 0) seen
    (way_of ways (get_or t.header 0 0) (get_or t.header 1 0)) (get_or t.header 1 0)
    (length t.moved)
turn_within ways due.SecondStatus t b = Ok Card

-- Whose turn it is to send the next character. At T=1 ends take turns, a block each.
abbrev pub turn_at : Ways → Opening → Listener → ℕ → Result End TurnFault
turn_at ways o l b =
    if has_begun o.stage then turn_within ways (due_at l.tap) (report_of l.under_way) b
    else turn_beside o.blocks (turn_before o.stage (has_answered o) b)

-- The end whose characters follow this end's sign: the other one if signs are swapped.
abbrev pub sender : Reading → End → End
sender reading from = if reading.swaps then other_end from else from

-- Who sends the next character.
abbrev pub source_at : Source → Reading → Opening → Listener → ℕ → Result End TurnFault
source_at (Sign form from) reading o l b = Ok (sender reading from)
source_at Turn reading o l b = turn_at reading.ways o l b
