-- What a tap at T=1 has heard: the command that waits for its response, and what was answered.
use Rattle.std.specs.Prelude.{ℕ, List, [], ◌∷◌, length, Option, Some, None, Bool, true, false, not, ◌==◌, ◌&&◌, if◌then◌else◌}
use Rattle.t0_core.specs.declared.end.End.{End}
use Rattle.t0_core.specs.declared.end.End.TheVariants as end
use Rattle.t0_core.specs.TapSide.{other_end}
use Rattle.t1_core.specs.declared.gathered.Progress.{Progress}
use Rattle.t1_core.specs.declared.gathered.Progress.TheVariants.{Nothing, Begun, Whole}
use Rattle.t1_core.specs.declared.reading.End as block
use Rattle.t1_core.specs.declared.reading.End.TheVariants.{Terminal, Card}
use Rattle.t1_core.specs.declared.settings.Edc.{Edc}
use Rattle.t1_core.specs.declared.settings.Edc.TheVariants.{Lrc, Crc}
use Rattle.t1_core.specs.Gathering.{Gathered, adds, newly}
use Rattle.t1_core.specs.Hearing.{Ear, Item, hears, item_of, listening}
use Rattle.t1_core.specs.Items.{Found, Cut}
use Rattle.t1_core.specs.Reading.{fresh}
use Rattle.trace_explain.specs.declared.follow.blocks.Blocks.{Blocks}
use Rattle.trace_explain.specs.Noted.{are_status}
use Rattle.trace_explain.specs.Pairs.{Command, asks_for, beside, command_in, data_in, le_of, moved_of, status_in, way_of}
use Rattle.trace_explain.specs.declared.follow.tpdu.Mark.{Mark}
use Rattle.trace_explain.specs.Reports.{Report, first_line, uncounted}

-- The tap, the newest command or response, and the whole command that waited for its response
-- before this byte, or no bytes. Whether its response is whole with this byte. Its mark: the header
-- is loose in a trace that begins among blocks; and the command began in the line of the first byte
-- since the last answered one. Who sends the next byte.
pub record Overheard : Type 0 where
  pub ear : Ear
  pub gathered : Gathered
  pub command : List ℕ
  pub is_answered : Bool
  pub mark : Mark
  pub turn : End

abbrev pub overheard_by : Blocks → Overheard
overheard_by b = record {
  ear = b.tap;
  gathered = b.gathered;
  command = b.command.items;
  is_answered = b.is_answered;
  mark = record { is_loose = b.is_loose; line = b.line };
  turn = b.turn;
}

abbrev pub edc_of : (has_crc : Bool) → Edc
edc_of false = Lrc
edc_of true = Crc

-- before the first byte
abbrev pub silent : Edc → Bool → Overheard
silent edc is_loose = record {
  ear = listening edc Terminal [] fresh;
  gathered = newly Nothing Terminal;
  command = [];
  is_answered = false;
  mark = record { is_loose = is_loose; line = 0 };
  turn = end.Terminal;
}

abbrev pub as_t1 : End → block.End
as_t1 end.Terminal = Terminal
as_t1 end.Card = Card

-- a whole command; and a response, or its first bytes
abbrev pub is_command : block.End → Progress → Bool
is_command Terminal Whole = true
is_command from other = false

abbrev pub is_answer : block.End → Progress → Bool
is_answer Card Begun = true
is_answer Card Whole = true
is_answer from other = false

-- the command that waits, after a command or response like this
abbrev pub commanded : Gathered → List ℕ → List ℕ
commanded g command = if is_command g.from g.progress then g.bytes
    else if is_answer g.from g.progress then command else []

abbrev pub is_response : block.End → Progress → Bool
is_response Card Whole = true
is_response from other = false

abbrev pub answers : Gathered → Bool
answers g = is_response g.from g.progress

-- Ends take turns, a block each. A byte that cuts off a block of the other end begins one.
abbrev pub turn_after : Found → End → End
turn_after Cut from = from
turn_after found from = other_end from

-- the item that ended with a byte of this end, if one did
abbrev pub takes : Overheard → End → Option Item → Overheard
takes o from None = o
takes o from (Some i) =
    let g : Gathered = adds o.gathered i in
    let command : List ℕ = commanded g o.command in
    record {
      ear = o.ear;
      gathered = g;
      command = command;
      is_answered = answers g && not (length command == 0);
      mark = o.mark;
      turn = turn_after i.found from;
    }

-- A command that was answered with the byte before this one, of this end and line, waits no more.
abbrev pub goes_on_from : Overheard → End → ℕ → Overheard
goes_on_from o from line = record {
  ear = o.ear;
  gathered = o.gathered;
  command = if o.is_answered then [] else o.command;
  is_answered = false;
  mark = record {
    is_loose = o.mark.is_loose && not o.is_answered;
    line = first_line (if o.is_answered then 0 else o.mark.line) line;
  };
  turn = from;
}

-- One more byte, of a line with this number.
abbrev pub overhears : Overheard → End → ℕ → ℕ → Overheard
overhears o from b line =
    let ear : Ear = hears o.ear (as_t1 from) b in
    takes (record (goes_on_from o from line) { ear = ear }) from (item_of ear)

-- the report of a command with its response, as of a pair in a log; none if they are no TPDU
abbrev pub pair_report : Mark → Command → List ℕ → Report
pair_report m c answer = record {
  header = c.header;
  tally = uncounted;
  way = way_of c.sent (data_in answer);
  moved = moved_of c.sent (data_in answer);
  status = status_in answer;
  answer = beside c.sent (data_in answer);
  is_loose = m.is_loose;
  line = m.line;
}

abbrev pub reports_in : Mark → List ℕ → Option Command → List ℕ → List Report
reports_in m command None answer = []
reports_in m command (Some c) answer =
    if are_status (status_in answer) && asks_for (le_of command c) (length (data_in answer))
    then pair_report m c answer ∷ [] else []

abbrev pub exchanged : Mark → List ℕ → List ℕ → List Report
exchanged m command answer = reports_in m command (command_in command) answer

-- the reports of the commands that get their response with this byte
abbrev pub answered : Overheard → List Report
answered o =
    if o.is_answered then exchanged o.mark o.command o.gathered.bytes else []
