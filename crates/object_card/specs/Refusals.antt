-- Why a header is refused (status words: ISO/IEC 7816-4, 5.1.3; their order: profile).
use Rattle.std.specs.Prelude.{ℕ, ◌+◌, ◌%◌, List, [], ◌∷◌, length, Option, Some, None, Bool, false, ◌==◌, ◌&&◌, ◌||◌, not, nat_lt, nat_le, is_some, is_none, if◌then◌else◌, option_and_then, unwrap_or, bit_and}
use Rattle.std.specs.Option.{option_map}
use Rattle.apdu_core.specs.declared.header.Header.{Header}
use Rattle.apdu_core.specs.StatusWord.{StatusWord, count}
use Rattle.tlv_core.specs.Spelling.{object_bytes}
use Rattle.object_card.specs.declared.limits.TheConstants.{VALUE_LIMIT}
use Rattle.object_card.specs.declared.instructions.Instruction.TheVariants.{Select, GetData, PutData, GetResponse}
use Rattle.object_card.specs.Instructions.{ins_of}
use Rattle.object_card.specs.Tables.{Entry, is_locked, value_under}
use Rattle.object_card.specs.State.{CardState, Pending, NothingPending, ChainPending, ResponsePending, chained, waiting, selected_entries}

-- the instructions
abbrev pub is_select : Header → Bool
is_select h = h.ins == ins_of Select

abbrev pub is_get : Header → Bool
is_get h = h.ins == ins_of GetData

abbrev pub is_put : Header → Bool
is_put h = h.ins == ins_of PutData

abbrev pub is_get_response : Header → Bool
is_get_response h = h.ins == ins_of GetResponse

-- 00, or 10, which means that more commands of the chain follow; for GET DATA also 80
abbrev pub class_is_known : Header → Bool
class_is_known h = (h.cla == 0x00) || (h.cla == 0x10) || ((h.cla == 0x80) && is_get h)

abbrev pub instruction_is_known : Header → Bool
instruction_is_known h = is_select h || is_get h || is_put h || is_get_response h

-- A chain is pending, and CLA (except bit 5), INS, P1 or P2 differs from the chain's (ISO/IEC
-- 7816-4, 5.1.1.1).
abbrev pub breaks_chain : Pending → Header → Bool
breaks_chain NothingPending h = false
breaks_chain (ChainPending p1 p2 bytes) h =
    not ((bit_and h.cla 0xEF == 0x00) && is_put h && (h.p1 == p1) && (h.p2 == p2))
breaks_chain (ResponsePending left) h = false

-- The tag that P1-P2 name, if any: `NamesTag`, as a function (ISO/IEC 7816-4, GET DATA and PUT
-- DATA; which tags: profile).
abbrev pub named_tag : ℕ → ℕ → Option (List ℕ)
named_tag p1 p2 =
    if p1 == 0 then (if nat_le 0x40 p2 && nat_le p2 0xFE
    && not (p2 % 32 == 31) then Some (p2 ∷ []) else None)
    else (if nat_le 0x5F p1 && nat_lt p1 256 && (p1 % 32 == 31) && nat_lt 0 p2
    && nat_lt p2 0x80 then Some (p1 ∷ p2 ∷ []) else None)

-- P1-P2 are 0400 for SELECT, 0000 for GET RESPONSE, and name a tag for GET DATA and PUT DATA
abbrev pub parameters_fit : Header → Bool
parameters_fit h =
    if is_select h then (h.p1 == 0x04) && (h.p2 == 0x00)
    else if is_get_response h then (h.p1 == 0x00) && (h.p2 == 0x00)
    else is_some (named_tag h.p1 h.p2)

-- the whole object that a GET DATA asks for
abbrev pub object_asked : CardState → Header → Option (List ℕ)
object_asked state h =
    option_and_then (λ tag. option_and_then
    (λ entries. option_map (object_bytes tag) (value_under tag entries))
    (selected_entries state))
    (named_tag h.p1 h.p2)

-- the bytes that a GET RESPONSE or a GET DATA may send
abbrev pub to_send : CardState → Header → List ℕ
to_send state h = if is_get_response h then waiting state.pending else unwrap_or
    (object_asked state h) []

-- whether there is a tag, and a locked entry with it
abbrev pub is_locked_among : Option (List ℕ) → Option (List Entry) → Bool
is_locked_among None entries = false
is_locked_among (Some tag) None = false
is_locked_among (Some tag) (Some entries) = is_locked tag entries

-- the reasons to refuse a header
pub data Reason : Type 0 where
  OtherThanItsChain : Reason
  UnknownClass : Reason
  UnknownInstruction : Reason
  NotChained : Reason
  WrongParameters : Reason
  NoApplicationSelected : Reason
  NoResponsePending : Reason
  LockedEntry : Reason
  NoSuchObject : Reason
  ValueTooLong : Reason
  NoIdentifier : Reason
  MoreThanIsLeft : Reason

-- their order
abbrev pub in_order : List Reason
in_order =
    OtherThanItsChain ∷ UnknownClass ∷ UnknownInstruction ∷ NotChained ∷ WrongParameters
    ∷ NoApplicationSelected ∷ NoResponsePending
    ∷ LockedEntry ∷ NoSuchObject ∷ ValueTooLong ∷ NoIdentifier ∷ MoreThanIsLeft ∷ []

-- when each reason holds
abbrev pub holds : CardState → Header → ℕ → Reason → Bool
holds state h p3 OtherThanItsChain = breaks_chain state.pending h
holds state h p3 UnknownClass = not (class_is_known h)
holds state h p3 UnknownInstruction = not (instruction_is_known h)
holds state h p3 NotChained = (h.cla == 0x10) && not (is_put h)
holds state h p3 WrongParameters = not (parameters_fit h)
holds state h p3 NoApplicationSelected = (is_get h || is_put h) && is_none (selected_entries state)
holds state h p3 NoResponsePending = is_get_response h && (length (waiting state.pending) == 0)
holds state h p3 LockedEntry =
    is_put h && is_locked_among (named_tag h.p1 h.p2) (selected_entries state)
holds state h p3 NoSuchObject = is_get h && is_none (object_asked state h)
holds state h p3 ValueTooLong = is_put h && nat_lt VALUE_LIMIT (length (chained state.pending) + p3)
holds state h p3 NoIdentifier = is_select h && (nat_lt p3 5 || nat_lt 16 p3)
holds state h p3 MoreThanIsLeft = (is_get h || is_get_response h)
    && nat_lt (length (to_send state h)) (count p3)

-- the status for each reason
abbrev pub status_for : CardState → Header → Reason → StatusWord
status_for state h OtherThanItsChain = (0x68, 0x83)
status_for state h UnknownClass = (0x6E, 0x00)
status_for state h UnknownInstruction = (0x6D, 0x00)
status_for state h NotChained = (0x68, 0x84)
status_for state h WrongParameters = (0x6A, 0x86)
status_for state h NoApplicationSelected = (0x69, 0x85)
status_for state h NoResponsePending = (0x69, 0x85)
status_for state h LockedEntry = (0x69, 0x82)
status_for state h NoSuchObject = (0x6A, 0x88)
status_for state h ValueTooLong = (0x67, 0x00)
status_for state h NoIdentifier = (0x67, 0x00)
status_for state h MoreThanIsLeft = (0x6C, length (to_send state h))

-- the status for the first of these reasons that holds
abbrev pub first_of_them : CardState → Header → ℕ → List Reason → Option StatusWord
first_of_them state h p3 [] = None
first_of_them state h p3 (reason ∷ others) =
    if holds state h p3 reason then Some (status_for state h reason) else first_of_them state h p3
    others

-- why a header is refused, as a status, if it is
abbrev pub refusal : CardState → Header → ℕ → Option StatusWord
refusal state h p3 = first_of_them state h p3 in_order
