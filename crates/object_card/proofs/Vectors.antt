-- Worked rows, computed from the definitions or shown to be instances of them, and near misses.
use Rattle.std.proofs.Common.{◌≡◌, ℕ, zero, suc, length, List, [], ◌∷◌, ◌++◌, Bool, true, false, refl, sym, ap, arith, subst, Option, Some, None, inl, inr, replicate}
use Rattle.apdu_core.specs.declared.header.Header.{Header}
use Rattle.apdu_core.specs.StatusWord.{StatusWord}
use Rattle.t0_core.specs.Meaning.{Tpdu}
use Rattle.std.specs.List.{All}
use Rattle.std.proofs.lemmas.List.Elements.{All-nil, All-cons}
use Rattle.tlv_core.specs.Spelling.{AreObjects, Empty, Primitive}
use Rattle.tlv_core.specs.FirstFault.{IsFirstFault}
use Rattle.tlv_core.specs.declared.fault.Reason.TheVariants.{ValueCut}
use Rattle.tlv_core.specs.PlaceLaws.{spelled_has_no_fault}
use Rattle.tlv_core.specs.FaultLaws.{first_here}
use Rattle.tlv_core.specs.Address.{NamesTag}
use Rattle.object_card.specs.Tables.{Entry, Application, same_bytes, is_locked, with_value}
use Rattle.object_card.specs.State.{CardState, Pending, NothingPending, ChainPending, ResponsePending}
use Rattle.apdu_core.specs.Shared.{Reply}
use Rattle.object_card.specs.OneStep.{Put, Answers, stores, does_not_store, wants_memory, PutStatus, not_allowed, stored, wrong_data, no_space, control_information, with_put}
use Rattle.object_card.specs.Refusals.{refusal}
use Rattle.object_card.specs.CardMeaning.{Does, refuses, selects_application, misses_application, sends, chains, puts_value}
use Rattle.object_card.specs.CardLaws.{put_leaves}
use Rattle.object_card.proofs.KeepingLemmas.{chaining_keeps_applications, refused_moves_nothing, not_found_keeps_selection}

abbrev aid : List ℕ
aid = 0xA0 ∷ 0x00 ∷ 0x00 ∷ 0x00 ∷ 0x03 ∷ 0x10 ∷ 0x10 ∷ []

abbrev other_aid : List ℕ
other_aid = 0xA0 ∷ 0x00 ∷ 0x00 ∷ 0x00 ∷ 0x04 ∷ 0x10 ∷ 0x10 ∷ []

abbrev name_tag : List ℕ
name_tag = 0x5F ∷ 0x20 ∷ []

abbrev name : List ℕ
name = 0x4A ∷ 0x4F ∷ 0x45 ∷ []

-- the entries 5F20 and 50, with this value under 5F20
abbrev entries_with : List ℕ → List Entry
entries_with value = record { tag = name_tag; value = value; locked = false }
    ∷ record { tag = 0x50 ∷ []; value = 0x41 ∷ []; locked = false } ∷ []

-- the card with these entries
abbrev card : List Entry → Option (List ℕ) → Pending → CardState
card entries selected pending =
    record {
      applications = record { aid = aid; entries = entries }
          ∷ [];
      selected = selected;
      pending = pending;
    }

-- the card after a reset, and with its application selected
abbrev fresh : CardState
fresh = card (entries_with name) None NothingPending

abbrev ready : CardState
ready = card (entries_with name) (Some aid) NothingPending

abbrev in_chain : List ℕ → CardState
in_chain bytes = card (entries_with name) (Some aid) (ChainPending 0x5F 0x20 bytes)

abbrev head : ℕ → ℕ → ℕ → ℕ → Header
head cla ins p1 p2 = record { cla = cla; ins = ins; p1 = p1; p2 = p2 }

-- a TPDU: its header, P3, the data to the card and from it, and its status
abbrev tpdu : Header → ℕ → List ℕ → List ℕ → StatusWord → Tpdu
tpdu header p3 sent received status =
    record { header = header; p3 = p3; sent = sent; received = received; status = status }

-- the file control information
information : control_information aid ≡ 0x6F ∷ 0x09 ∷ 0x84 ∷ 0x07 ∷ 0xA0 ∷ 0x00 ∷ 0x00 ∷ 0x00 ∷ 0x03
    ∷ 0x10 ∷ 0x10 ∷ []
information = refl

-- refusals, in their order
other_command_in_chain : refusal (in_chain (0xAA ∷ [])) (head 0x00 0xCA 0x5F 0x20) 0
    ≡ Some (0x68, 0x83)
other_command_in_chain = refl

invalid_ins_in_chain : refusal (in_chain (0xAA ∷ [])) (head 0xFF 0x60 0x5F 0x20) 0
    ≡ Some (0x68, 0x83)
invalid_ins_in_chain = refl

other_tag_in_chain : refusal (in_chain (0xAA ∷ [])) (head 0x00 0xDA 0x5F 0x21) 1 ≡ Some (0x68, 0x83)
other_tag_in_chain = refl

other_class_in_chain : refusal (in_chain (0xAA ∷ [])) (head 0x01 0xDA 0x5F 0x20) 1
    ≡ Some (0x68, 0x83)
other_class_in_chain = refl

chain_goes_on : refusal (in_chain (0xAA ∷ [])) (head 0x10 0xDA 0x5F 0x20) 1 ≡ None
chain_goes_on = refl

class_01 : refusal ready (head 0x01 0xCA 0x5F 0x20) 0 ≡ Some (0x6E, 0x00)
class_01 = refl

class_80_put : refusal ready (head 0x80 0xDA 0x5F 0x20) 1 ≡ Some (0x6E, 0x00)
class_80_put = refl

class_80_get : refusal ready (head 0x80 0xCA 0x5F 0x20) 6 ≡ None
class_80_get = refl

instruction_B0 : refusal ready (head 0x00 0xB0 0x00 0x00) 0 ≡ Some (0x6D, 0x00)
instruction_B0 = refl

chained_select : refusal ready (head 0x10 0xA4 0x04 0x00) 7 ≡ Some (0x68, 0x84)
chained_select = refl

no_tag : refusal ready (head 0x00 0xCA 0x00 0xFF) 0 ≡ Some (0x6A, 0x86)
no_tag = refl

-- wrong P1-P2 are reported before a wrong length
select_of_other_parameters : refusal ready (head 0x00 0xA4 0x00 0x00) 4 ≡ Some (0x6A, 0x86)
select_of_other_parameters = refl

no_application_selected : refusal fresh (head 0x00 0xCA 0x5F 0x20) 0 ≡ Some (0x69, 0x85)
no_application_selected = refl

no_response : refusal ready (head 0x00 0xC0 0x00 0x00) 0 ≡ Some (0x69, 0x85)
no_response = refl

no_object : refusal ready (head 0x00 0xCA 0x9F 0x36) 0 ≡ Some (0x6A, 0x88)
no_object = refl

identifier_of_four_bytes : refusal ready (head 0x00 0xA4 0x04 0x00) 4 ≡ Some (0x67, 0x00)
identifier_of_four_bytes = refl

past_the_limit : refusal (in_chain (replicate 8184 0x42)) (head 0x00 0xDA 0x5F 0x20) 9
    ≡ Some (0x67, 0x00)
past_the_limit = refl

up_to_the_limit : refusal (in_chain (replicate 8184 0x42)) (head 0x00 0xDA 0x5F 0x20) 8 ≡ None
up_to_the_limit = refl

wrong_le : refusal ready (head 0x00 0xCA 0x5F 0x20) 0 ≡ Some (0x6C, 0x06)
wrong_le = refl

-- a value is replaced in place, and a new tag is appended
in_place : with_value name_tag (0x42 ∷ []) (entries_with name) ≡ entries_with (0x42 ∷ [])
in_place = refl

last : with_value (0x9F ∷ 0x36 ∷ []) (0x01 ∷ []) (entries_with name) ≡ entries_with name
    ++ record { tag = 0x9F ∷ 0x36 ∷ []; value = 0x01 ∷ []; locked = false } ∷ []
last = refl

-- with locked entries 50 and 70
abbrev locked_entries : List ℕ → List Entry
locked_entries value =
    record { tag = name_tag; value = name; locked = false }
    ∷ record { tag = 0x50 ∷ []; value = value; locked = true }
    ∷ record { tag = 0x70 ∷ []; value = []; locked = true } ∷ []

abbrev guarded : Pending → CardState
guarded pending = card (locked_entries (0x41 ∷ [])) (Some aid) pending

abbrev first_byte : Option StatusWord → ℕ
first_byte None = 0
first_byte (Some status) = status.0

-- an unknown instruction is reported before unsupported chaining, and that before wrong parameters
chained_B0 : refusal ready (head 0x10 0xB0 0x00 0x00) 0 ≡ Some (0x6D, 0x00)
chained_B0 = refl

-- near miss
chained_B0_is_not_6884 : refusal ready (head 0x10 0xB0 0x00 0x00) 0 ≡ Some (0x68, 0x84) → ⊥
chained_B0_is_not_6884 e = let no : 0x6D ≡ 0x68 = ap first_byte e in omega (arith, no)

chained_select_of_other_parameters : refusal ready (head 0x10 0xA4 0x00 0x00) 7 ≡ Some (0x68, 0x84)
chained_select_of_other_parameters = refl

-- near miss
chained_select_is_not_6A86 : refusal ready (head 0x10 0xA4 0x00 0x00) 7 ≡ Some (0x6A, 0x86) → ⊥
chained_select_is_not_6A86 e = let no : 0x68 ≡ 0x6A = ap first_byte e in omega (arith, no)

-- parameters that name no tag are reported before a missing selection
no_tag_before_a_selection : refusal fresh (head 0x00 0xCA 0x00 0xFF) 0 ≡ Some (0x6A, 0x86)
no_tag_before_a_selection = refl

-- near miss
no_tag_is_not_6985 : refusal fresh (head 0x00 0xCA 0x00 0xFF) 0 ≡ Some (0x69, 0x85) → ⊥
no_tag_is_not_6985 e = let no : 0x6A ≡ 0x69 = ap first_byte e in omega (arith, no)

none_selected_first : refusal (card (locked_entries (0x41 ∷ [])) None NothingPending)
    (head 0x00 0xDA 0x00 0x50) 1 ≡ Some (0x69, 0x85)
none_selected_first = refl

locked_last_piece : refusal (guarded NothingPending) (head 0x00 0xDA 0x00 0x50) 1
    ≡ Some (0x69, 0x82)
locked_last_piece = refl

-- near miss: a lock that refuses only the last piece
locked_first_piece : refusal (guarded NothingPending) (head 0x10 0xDA 0x00 0x50) 255
    ≡ Some (0x69, 0x82)
locked_first_piece = refl

lock_before_length : refusal (guarded (ChainPending 0x00 0x50 (replicate 8192 0x42)))
    (head 0x00 0xDA 0x00 0x50) 1 ≡ Some (0x69, 0x82)
lock_before_length = refl

locked_template : refusal (guarded NothingPending) (head 0x00 0xDA 0x00 0x70) 3 ≡ Some (0x69, 0x82)
locked_template = refl

beside_locked : refusal (guarded NothingPending) (head 0x00 0xDA 0x5F 0x20) 3 ≡ None
beside_locked = refl

get_locked : refusal (guarded NothingPending) (head 0x00 0xCA 0x00 0x50) 3 ≡ None
get_locked = refl

locked_is_not_put : PutStatus (locked_entries (0x41 ∷ [])) (0x50 ∷ []) (replicate 8193 0x42)
    (0x69, 0x82)
locked_is_not_put = not_allowed refl

-- a put keeps the lock
mark_stays : with_value (0x50 ∷ []) (0x42 ∷ []) (locked_entries (0x41 ∷ []))
    ≡ locked_entries (0x42 ∷ [])
mark_stays = refl

-- near miss: a replaced value that unlocks
mark_is_not_lost : is_locked (0x50 ∷ [])
    (with_value (0x50 ∷ []) (0x42 ∷ []) (locked_entries (0x41 ∷ []))) ≡ true
mark_is_not_lost = refl

new_is_not_locked : is_locked (0x51 ∷ [])
    (with_value (0x51 ∷ []) (0x42 ∷ []) (locked_entries (0x41 ∷ []))) ≡ false
new_is_not_locked = refl

-- 00A4040007 and the identifier: 610B
select_row : Does fresh 256 (tpdu (head 0x00 0xA4 0x04 0x00) 7 aid [] (0x61, 0x0B))
    (card (entries_with name) (Some aid) (ResponsePending (control_information aid)))
select_row = selects_application (head 0x00 0xA4 0x04 0x00) aid refl refl refl

-- 00A4040007 and another identifier: 6A82, and the selection is kept
select_nothing_row : Does ready 256 (tpdu (head 0x00 0xA4 0x04 0x00) 7 other_aid [] (0x6A, 0x82))
    ready
select_nothing_row = misses_application (head 0x00 0xA4 0x04 0x00) other_aid refl refl refl

-- 00C000000B: the response whole, 9000
response_row : Does (card (entries_with name) (Some aid)
    (ResponsePending (control_information aid))) 256
    (tpdu (head 0x00 0xC0 0x00 0x00) 11 [] (control_information aid) (0x90, 0x00)) ready
response_row = sends (head 0x00 0xC0 0x00 0x00) 11 refl refl

-- 00C000000C: 6C0B, and the response is kept
longer_response_row : Does (card (entries_with name) (Some aid)
    (ResponsePending (control_information aid))) 256
    (tpdu (head 0x00 0xC0 0x00 0x00) 12 [] [] (0x6C, 0x0B))
    (card (entries_with name) (Some aid) (ResponsePending (control_information aid)))
longer_response_row = refuses (head 0x00 0xC0 0x00 0x00) 12 (0x6C, 0x0B) refl

-- 00CA5F2000: 6C06, which drops a response
dropped_response_row : Does (card (entries_with name) (Some aid) (ResponsePending (0x41 ∷ []))) 256
    (tpdu (head 0x00 0xCA 0x5F 0x20) 0 [] [] (0x6C, 0x06)) ready
dropped_response_row = refuses (head 0x00 0xCA 0x5F 0x20) 0 (0x6C, 0x06) refl

-- 00CA5F2006: the object whole, 9000
get_row : Does ready 256 (tpdu (head 0x00 0xCA 0x5F 0x20) 6 [] (0x5F ∷ 0x20 ∷ 0x03 ∷ name)
    (0x90, 0x00)) ready
get_row = sends (head 0x00 0xCA 0x5F 0x20) 6 refl refl

-- 00CA5F2002: a part of it, 6104 and, under a cut of 3, 6103
get_part_row : Does ready 256 (tpdu (head 0x00 0xCA 0x5F 0x20) 2 [] (0x5F ∷ 0x20 ∷ []) (0x61, 0x04))
    (card (entries_with name) (Some aid) (ResponsePending (0x03 ∷ name)))
get_part_row = sends (head 0x00 0xCA 0x5F 0x20) 2 refl refl

get_part_cut_row : Does ready 3 (tpdu (head 0x00 0xCA 0x5F 0x20) 2 [] (0x5F ∷ 0x20 ∷ [])
    (0x61, 0x03)) (card (entries_with name) (Some aid) (ResponsePending (0x03 ∷ name)))
get_part_cut_row = sends (head 0x00 0xCA 0x5F 0x20) 2 refl refl

address : NamesTag name_tag 0x5F 0x20
address = (omega arith, omega arith, refl, omega arith, omega arith, refl, refl)

-- a value of two bytes can be put under 5F20
two_bytes_fit : PutStatus (entries_with name) name_tag (0xAA ∷ 0xBB ∷ []) (0x90, 0x00)
two_bytes_fit = stored refl (omega arith) (λ e. absurd (cc)) (inl refl)

abbrev done : Reply
done = record { status = (0x90, 0x00); content = [] }

-- 00DA5F2002 AABB: 9000
put_row : Does ready 256 (tpdu (head 0x00 0xDA 0x5F 0x20) 2 (0xAA ∷ 0xBB ∷ []) [] (0x90, 0x00))
    (card (entries_with (0xAA ∷ 0xBB ∷ [])) (Some aid) NothingPending)
put_row = puts_value (head 0x00 0xDA 0x5F 0x20) (0xAA ∷ 0xBB ∷ []) name_tag done
    (card (entries_with (0xAA ∷ 0xBB ∷ [])) (Some aid) NothingPending) refl refl refl address
    (stores name_tag (0xAA ∷ 0xBB ∷ []) aid (entries_with name) refl refl two_bytes_fit)

-- the same if memory runs out: 6581, and the entry is unchanged
put_without_memory_row : Does ready 256 (tpdu (head 0x00 0xDA 0x5F 0x20) 2 (0xAA ∷ 0xBB ∷ []) []
    (0x65, 0x81)) ready
put_without_memory_row = puts_value (head 0x00 0xDA 0x5F 0x20) (0xAA ∷ 0xBB ∷ []) name_tag
    (record { status = (0x65, 0x81); content = [] })
    ready refl refl refl address
    (wants_memory name_tag (0xAA ∷ 0xBB ∷ []) (entries_with name) refl two_bytes_fit)

-- 10DA5F2001 AA: 9000, then 00DA5F2001 BB: 9000
first_piece_row : Does ready 256 (tpdu (head 0x10 0xDA 0x5F 0x20) 1 (0xAA ∷ []) [] (0x90, 0x00))
    (in_chain (0xAA ∷ []))
first_piece_row = chains (head 0x10 0xDA 0x5F 0x20) (0xAA ∷ []) refl refl refl

last_piece_row : Does (in_chain (0xAA ∷ [])) 256 (tpdu (head 0x00 0xDA 0x5F 0x20) 1 (0xBB ∷ []) []
    (0x90, 0x00)) (card (entries_with (0xAA ∷ 0xBB ∷ [])) (Some aid) NothingPending)
last_piece_row = puts_value (head 0x00 0xDA 0x5F 0x20) (0xBB ∷ []) name_tag done
    (card (entries_with (0xAA ∷ 0xBB ∷ [])) (Some aid) (ChainPending 0x5F 0x20 (0xAA ∷ []))) refl
    refl refl address
    (stores name_tag (0xAA ∷ 0xBB ∷ []) aid (entries_with name) refl refl two_bytes_fit)

-- 10DA5F2000: an empty chain is pending
empty_piece_row : Does ready 256 (tpdu (head 0x10 0xDA 0x5F 0x20) 0 [] [] (0x90, 0x00))
    (in_chain [])
empty_piece_row = chains (head 0x10 0xDA 0x5F 0x20) [] refl refl refl

-- 00DA007003 500541: 6A80, since the value of 50 extends past the end
cut_value : AreObjects (0x50 ∷ 0x05 ∷ 0x41 ∷ []) 2 → ⊥
cut_value objects =
    let first : IsFirstFault (0x50 ∷ 0x05 ∷ 0x41 ∷ []) 2 0 ValueCut =
    first_here (0x50 ∷ 0x05 ∷ 0x41 ∷ []) 2 ValueCut (λ e. omega arith) (
      omega arith,
      (
        0x50 ∷ [],
        0x05 ∷ [],
        0x41 ∷ [],
        5,
        (omega arith, omega arith, omega arith),
        (omega arith, refl),
        refl,
        omega arith,
      ),
    ) in
    spelled_has_no_fault (0x50 ∷ 0x05 ∷ 0x41 ∷ []) 2 0 ValueCut objects first.here

template_address : NamesTag (0x70 ∷ []) 0x00 0x70
template_address = (omega arith, omega arith, omega arith, refl, refl)

wrong_data_row : Does ready 256 (tpdu (head 0x00 0xDA 0x00 0x70) 3 (0x50 ∷ 0x05 ∷ 0x41 ∷ []) []
    (0x6A, 0x80)) ready
wrong_data_row = puts_value (head 0x00 0xDA 0x00 0x70) (0x50 ∷ 0x05 ∷ 0x41 ∷ []) (0x70 ∷ [])
    (record { status = (0x6A, 0x80); content = [] })
    ready refl refl refl template_address
    (does_not_store (0x70 ∷ []) (0x50 ∷ 0x05 ∷ 0x41 ∷ []) (entries_with name) (0x6A, 0x80) refl
    (λ e. let no : 0x6A ≡ 0x90 = ap (λ s. s.0) e in absurd (omega (arith, no)))
    (wrong_data refl (omega arith) (λ value_of. cut_value (value_of refl))))

-- 00DA007006 005081014100: 9000; padding and the long length are stored as sent
abbrev Zero : ℕ → Type 0
Zero b = b ≡ 0

one_zero : All Zero (0 ∷ [])
one_zero = All-cons Zero 0 [] refl (All-nil Zero)

abbrev padded : List ℕ
padded = 0x00 ∷ 0x50 ∷ 0x81 ∷ 0x01 ∷ 0x41 ∷ 0x00 ∷ []

padded_objects : AreObjects padded 2
padded_objects = (
  Primitive (0x50 ∷ []) (0x41 ∷ []) Empty,
  (
    0x00 ∷ [],
    0x81 ∷ 0x01 ∷ [],
    0x00 ∷ [],
    record {
      spelled = refl;
      is_padding = one_zero;
      is_tag =
          (omega arith, omega arith, omega arith);
      is_size = (refl, omega arith, refl);
      in_depth =
          omega arith;
    },
    refl,
    one_zero,
  ),
)

abbrev with_template : List Entry
with_template = entries_with name ++ record { tag = 0x70 ∷ []; value = padded; locked = false } ∷ []

padded_row : Does ready 256 (tpdu (head 0x00 0xDA 0x00 0x70) 6 padded [] (0x90, 0x00))
    (card with_template (Some aid) NothingPending)
padded_row = puts_value (head 0x00 0xDA 0x00 0x70) padded (0x70 ∷ []) done
    (card with_template (Some aid) NothingPending) refl refl refl template_address
    (stores (0x70 ∷ []) padded aid (entries_with name) refl refl
    (stored refl (omega arith) (λ kind. padded_objects) (inr (omega arith))))

get_padded_row : Does (card with_template (Some aid) NothingPending) 256
    (tpdu (head 0x00 0xCA 0x00 0x70) 8 [] (0x70 ∷ 0x06 ∷ padded) (0x90, 0x00))
    (card with_template (Some aid) NothingPending)
get_padded_row = sends (head 0x00 0xCA 0x00 0x70) 8 refl refl

-- n entries: DF01, DF02 and so on
abbrev numbered : ℕ → List Entry
numbered zero = []
numbered (suc n) = numbered n ++ record { tag = 0xDF ∷ suc n ∷ []; value = []; locked = false } ∷ []

-- a new tag if there are 64 entries: 6A84; a tag that is present is stored
sixty_four : length (numbered 64) ≡ 64
sixty_four = refl

full : PutStatus (numbered 64) (0xDF ∷ 0x41 ∷ []) (0x01 ∷ []) (0x6A, 0x84)
full = no_space refl (omega arith) (λ kind. absurd (cc)) refl (omega (arith, sixty_four))

held_in_full : PutStatus (numbered 64) (0xDF ∷ 0x40 ∷ []) (0x01 ∷ []) (0x90, 0x00)
held_in_full = stored refl (omega arith) (λ kind. absurd (cc)) (inl refl)

-- near miss: a put that moves an entry to the end
abbrev moved : CardState
moved = card (record { tag = 0x50 ∷ []; value = 0x41 ∷ []; locked = false }
    ∷ record { tag = name_tag; value = 0x42 ∷ []; locked = false } ∷ []) (Some aid) NothingPending

-- whether 5F20 is the first entry of the first application
abbrev is_name_first : List Entry → Bool
is_name_first [] = false
is_name_first (e ∷ others) = same_bytes e.tag name_tag

abbrev name_stands_first : List Application → Bool
name_stands_first [] = false
name_stands_first (a ∷ others) = is_name_first a.entries

not_moved : (reply : Reply) → Answers ready (Put name_tag (0x42 ∷ [])) reply moved → ⊥
not_moved reply h = elim (put_leaves ready moved name_tag (0x42 ∷ []) reply h) [
  | inl w ↦ let same : false ≡ true = ap (λ state. name_stands_first state.applications) w.1 in
      absurd (cc)
  | inr w ↦
      let one : aid ≡ w.0 = cc in
      let put : moved ≡ with_put ready aid name_tag (0x42 ∷ []) =
      subst (λ x. moved ≡ with_put ready x name_tag (0x42 ∷ [])) (sym one) w.6 in
      let same : false ≡ true = ap (λ state. name_stands_first state.applications) put in
      absurd (cc)
]

-- near miss: a PUT DATA with CLA 10 that stores its piece
piece_is_not_stored : (cut : ℕ) → Does ready cut (tpdu (head 0x10 0xDA 0x5F 0x20) 1 (0xAA ∷ []) []
    (0x90, 0x00)) (card [] (Some aid) (ChainPending 0x5F 0x20 (0xAA ∷ []))) → ⊥
piece_is_not_stored cut h =
    let e = chaining_keeps_applications ready
    (card [] (Some aid) (ChainPending 0x5F 0x20 (0xAA ∷ []))) cut
    (tpdu (head 0x10 0xDA 0x5F 0x20) 1 (0xAA ∷ []) [] (0x90, 0x00)) h refl in
    let same : false ≡ true = ap name_stands_first e in absurd (cc)

-- near miss: a refused header that moves data
abbrev moving : Tpdu
moving = tpdu (head 0x10 0xA4 0x04 0x00) 7 aid [] (0x68, 0x84)

refused_is_not_moved : (cut : ℕ) (new : CardState) → Does ready cut moving new → ⊥
refused_is_not_moved cut new h = let e =
    (refused_moves_nothing ready new cut moving (0x68, 0x84) h refl).0 in absurd (cc)

-- near miss: 6A82 that drops the selection
selection_is_not_dropped : (cut : ℕ) → Does ready cut
    (tpdu (head 0x00 0xA4 0x04 0x00) 7 other_aid [] (0x6A, 0x82)) fresh → ⊥
selection_is_not_dropped cut h =
    let e : None ≡ Some aid = not_found_keeps_selection ready fresh cut
    (tpdu (head 0x00 0xA4 0x04 0x00) 7 other_aid [] (0x6A, 0x82)) h refl in
    absurd (cc)
