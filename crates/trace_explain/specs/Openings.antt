-- What comes before a dialogue: answer to reset and PPS exchanges (ISO/IEC 7816-3, 8 and 9).
use Rattle.std.specs.Prelude.{ℕ, zero, suc, ◌+◌, ◌/◌, ◌%◌, List, [], ◌∷◌, ◌++◌, length, slice_index, get_or, min, nat_lt, Option, Some, None, Bool, true, false, not, ◌==◌, ◌&&◌, is_some, if◌then◌else◌}
use Rattle.std.specs.Option.{option_map, unwrap_or}
use Rattle.atr_core.specs.Conventions.{convention_of, as_sent}
use Rattle.atr_core.specs.FirstFault.{first_fault}
use Rattle.atr_core.specs.PpsBytes.{pps_end}
use Rattle.atr_core.specs.declared.convention.Convention.{Convention}
use Rattle.atr_core.specs.declared.convention.Convention.TheVariants.{Direct, Inverse}
use Rattle.atr_core.specs.declared.fault.AtrFault.{AtrFault}
use Rattle.atr_core.specs.declared.fault.AtrReason.{AtrReason}
use Rattle.atr_core.specs.declared.fault.AtrReason.TheVariants.{Cut, CheckMissing}
use Rattle.t0_core.specs.declared.end.End.{End}
use Rattle.t0_core.specs.declared.end.End.TheVariants.{Terminal, Card}
use Rattle.trace_explain.specs.declared.follow.opening.Stage.{Stage}
use Rattle.trace_explain.specs.declared.follow.opening.Stage.TheVariants as stage
use Rattle.trace_explain.specs.declared.follow.opening.Role.{Role}
use Rattle.trace_explain.specs.declared.follow.opening.Role.TheVariants as role
use Rattle.trace_explain.specs.declared.follow.preface.Preface.{Preface}
use Rattle.t1_core.specs.declared.settings.Edc.{Edc}
use Rattle.trace_explain.specs.Overheard.{Overheard, answered, edc_of, overheard_by, overhears, silent}
use Rattle.trace_explain.specs.Reports.{Report}

-- What was received since the trace began or the card was reset: how far it is; how the characters
-- of the answer are turned; the answer; the last PPS request and the response to it.
pub record Opening : Type 0 where
  pub stage : Stage
  pub turned : Convention
  pub answer : List ℕ
  pub request : List ℕ
  pub response : List ℕ
  pub blocks : Option Overheard  -- at T=1

abbrev pub opening_of : Preface → Opening
opening_of p = record {
  stage = p.stage;
  turned = p.turned;
  answer = p.answer.items;
  request = p.request.items;
  response = p.response.items;
  blocks = option_map overheard_by p.blocks;
}

-- nothing was received; and the dialogue has begun
abbrev pub opening_at : Stage → Opening
opening_at stage =
    record {
      stage = stage;
      turned = Direct;
      answer = [];
      request = [];
      response = [];
      blocks = None;
    }

abbrev pub unopened : Opening
unopened = opening_at stage.Ready

-- how a trace begins: before an answer to reset, or among blocks with this error detection code
abbrev pub first_opening : (first_edc : Option Edc) → Opening
first_opening None = unopened
first_opening (Some edc) = record (opening_at stage.Blocks) { blocks = Some (silent edc true) }

abbrev pub begun : Opening
begun = opening_at stage.Begun

abbrev pub has_begun : Stage → Bool
has_begun stage.Begun = true
has_begun other = false

-- How an answer is turned that begins with this character in the trace: `3B` and `3F` are TS as it
-- is meant, `03` is TS of the inverse convention, read by the direct one (8.1).
abbrev pub turned_by : ℕ → Option Convention
turned_by b = if b == 0x03 then Some Inverse
    else if is_some (convention_of b) then Some Direct else None

-- a character of the card where an answer may begin
abbrev pub as_ts : Option Convention → Role
as_ts (Some turned) = role.Ts turned
as_ts None = role.Stray

-- What a character of this end is. `may_ask`: a terminal may ask by PPS.
abbrev pub role_at : Stage → Bool → End → ℕ → Role
role_at stage.Begun may_ask from b = role.Dialogue
role_at stage.Blocks may_ask from b = role.Block from
role_at stage.Request may_ask Terminal b = role.Request
role_at other may_ask Terminal b =
    if may_ask && (b == 0xFF) then role.RequestPpss else role.Dialogue
role_at stage.Ready may_ask Card b = as_ts (turned_by b)
role_at stage.Answer may_ask Card b = role.Answer
role_at stage.Astray may_ask Card b = role.Stray
role_at stage.Response may_ask Card b = role.Response
role_at other may_ask Card b = if b == 0xFF then role.ResponsePpss else as_ts (turned_by b)

abbrev pub is_direct : Convention → Bool
is_direct Direct = true
is_direct Inverse = false

abbrev pub has_answered : Opening → Bool
has_answered o = not (length o.answer == 0)

-- a terminal may ask by PPS behind an answer whose characters are read as they are meant
abbrev pub may_ask : Opening → Bool
may_ask o = is_direct o.turned && has_answered o

-- The protocol after an answer, without PPS: that of TA2, or else the first one that is offered
-- (8.3). T0 announces TD1 and what is before it, and TD1 announces TA2.
abbrev pub protocol_in : List ℕ → ℕ → ℕ
protocol_in answer place = if get_or answer place 0 / 16 % 2 == 1
    then get_or answer (place + 1) 0 % 16 else get_or answer place 0 % 16

-- how many of TA, TB and TC an indicator (T0 or a TD) announces
abbrev pub announced_by : ℕ → ℕ
announced_by y = y / 16 % 2 + y / 32 % 2 + y / 64 % 2

-- the place of the TD that an indicator at this place announces, if it does
abbrev pub td_behind : List ℕ → ℕ → ℕ
td_behind answer place = place + 1 + announced_by (get_or answer place 0)

abbrev pub protocol_of : List ℕ → ℕ
protocol_of answer = if nat_lt (get_or answer 1 0) 128 then 0
    else protocol_in answer (td_behind answer 1)

-- after a response to PPS it is that of PPS0, the second character (9.2)
abbrev pub protocol_after : List ℕ → List ℕ → ℕ
protocol_after answer (ppss ∷ pps0 ∷ response) = pps0 % 16
protocol_after answer other = protocol_of answer

-- Bit 1 of the first TC for T=1, if one of these TDs is before it: blocks have CRC (11.4). The
-- first TD is at this place.
abbrev pub crc_from : (tds : ℕ) → List ℕ → ℕ → Bool
crc_from zero answer place = false
crc_from (suc tds) answer place =
    let td : ℕ = get_or answer place 0 in
    if (td % 16 == 1) && (td / 64 % 2 == 1)
    then get_or answer (place + announced_by td) 0 % 2 == 1
    else if nat_lt td 128 then false
    else crc_from tds answer (td_behind answer place)

-- TC2, which follows TD1, is not for T=1. An answer has at most 33 characters.
abbrev pub has_crc : List ℕ → Bool
has_crc answer =
    let td1 : ℕ = td_behind answer 1 in
    if nat_lt (get_or answer 1 0) 128 then false
    else if nat_lt (get_or answer td1 0) 128 then false
    else crc_from (min (length answer) 33) answer (td_behind answer td1)

abbrev pub is_ready : Stage → Bool
is_ready stage.Ready = true
is_ready other = false

-- blocks follow a whole answer and PPS that lead to T=1
abbrev pub leads_to_blocks : Opening → Bool
leads_to_blocks o =
    is_ready o.stage && may_ask o && (protocol_after o.answer o.response == 1)

abbrev pub is_dialogue : Role → Bool
is_dialogue role.Dialogue = true
is_dialogue other = false

abbrev pub or_block : Bool → End → Role → Role
or_block is_block from r = if is_block then role.Block from else r

abbrev pub blocked : Bool → End → Role → Role
blocked leads from r = or_block (is_dialogue r && leads) from r

-- what a character is
abbrev pub role_of : Opening → End → ℕ → Role
role_of o from b = blocked (leads_to_blocks o) from (role_at o.stage (may_ask o) from b)

-- an answer so far wants nothing but more characters
abbrev pub is_short : AtrReason → Bool
is_short Cut = true
is_short CheckMissing = true
is_short other = false

-- an answer ends where it is whole, or has its first fault
abbrev pub after_answer : Option AtrFault → Stage
after_answer None = stage.Ready
after_answer (Some fault) = if is_short fault.reason then stage.Answer else stage.Astray

-- a request or response ends with as many characters as its PPS0, the second of them, says
abbrev pub is_full : List ℕ → Bool
is_full bytes = length bytes == pps_end (slice_index bytes 1) + 1

-- an opening with one character more, which is this, of a line with this number
abbrev pub opens : Opening → Role → ℕ → ℕ → Opening
opens o (role.Ts turned) b n = record {
  stage = stage.Answer;
  turned = turned;
  answer = as_sent turned b ∷ [];
  request = [];
  response = [];
  blocks = None;
}
opens o role.Answer b n = record {
  stage = after_answer (first_fault (o.answer ++ as_sent o.turned b ∷ []));
  turned = o.turned;
  answer = o.answer ++ as_sent o.turned b ∷ [];
  request = o.request;
  response = o.response;
  blocks = o.blocks;
}
opens o role.RequestPpss b n = record o { stage = stage.Request; request = b ∷ []; response = [] }
opens o role.Request b n = record o {
  stage = if is_full (o.request ++ b ∷ []) then stage.Asked else stage.Request;
  request = o.request ++ b ∷ [];
}
opens o role.ResponsePpss b n = record o { stage = stage.Response; response = b ∷ [] }
opens o role.Response b n = record o {
  stage = if is_full (o.response ++ b ∷ []) then stage.Ready else stage.Response;
  response = o.response ++ b ∷ [];
}
opens o role.Stray b n = record o { stage = stage.Astray }
opens o role.Dialogue b n = begun
opens o (role.Block from) b n = record (opening_at stage.Blocks) {
  blocks = Some (overhears (unwrap_or o.blocks (silent (edc_of (has_crc o.answer)) false)) from b
      n);
}

-- A header that begins here is loose: the bytes before it are neither a whole answer nor PPS.
abbrev pub is_loose : Stage → Bool
is_loose stage.Answer = true
is_loose stage.Astray = true
is_loose stage.Response = true
is_loose other = false

abbrev pub is_block : Role → Bool
is_block (role.Block from) = true
is_block other = false

-- the reports of the commands that get their response with a character in this role
abbrev pub reports_with : Role → Option Overheard → List Report
reports_with (role.Block from) (Some o) = answered o
reports_with other blocks = []

-- the card may begin an answer with this character
abbrev pub begins_answer : End → ℕ → Bool
begins_answer Terminal b = false
begins_answer Card b = is_some (turned_by b)

-- the first protocol that an answer offers, if the program reads neither
abbrev pub unread : List ℕ → Option ℕ
unread [] = None
unread (zero ∷ others) = None
unread (suc zero ∷ others) = None
unread (suc (suc t) ∷ others) = Some (suc (suc t))
