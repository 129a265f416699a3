-- What bytes of a line at T=1 are: a valid block, a damaged one, or the first bytes of one (ISO/IEC
-- 7816-3, clause 11).
use Rattle.std.specs.Prelude.{ℕ, ◌≤◌, ◌+◌, ◌/◌, ◌%◌, ◌==◌, Bool, true, false, not, List, [], ◌∷◌, length, take, slice_index, slice_range, Option, Some, None, nat_lt, bit_xor, if◌then◌else◌}
use Rattle.t1_core.specs.declared.found.Damage.{Damage}
use Rattle.t1_core.specs.declared.found.Damage.TheVariants as damage
use Rattle.t1_core.specs.declared.found.Found as declared
use Rattle.t1_core.specs.declared.found.Found.TheVariants as code
use Rattle.t1_core.specs.declared.pcb.Pcb.{Pcb}
use Rattle.t1_core.specs.declared.settings.Edc.{Edc}
use Rattle.t1_core.specs.declared.settings.Edc.TheVariants.{Lrc, Crc}
use Rattle.t1_core.specs.Block.{Block, I, said}
use Rattle.t1_core.specs.BlockBytes.{lrc, pcb_of, block_in}

abbrev pub check_size : Edc → ℕ
check_size Lrc = 1
check_size Crc = 2

-- A block is as long as LEN, its third byte, states: NAD, PCB, LEN, the field and the EDC.
abbrev pub is_complete : Edc → List ℕ → Bool
is_complete edc bytes =
    if nat_lt (length bytes) 4 then false
    else not (nat_lt (length bytes) (slice_index bytes 2 + 3 + check_size edc))

-- Bits 8 and 4 of NAD are 0. SAD, bits 3 to 1, and DAD, bits 7 to 5, differ, or both are 0.
abbrev pub is_nad : ℕ → Bool
is_nad nad =
    if nad == 0 then true
    else if nat_lt nad 128 then (if nad / 8 % 2 == 0 then not (nad % 8 == nad / 16) else false)
    else false

-- CRC of ISO/IEC 13239: the remainder by x^16 + x^12 + x^5 + 1, each byte from its lowest bit on
abbrev pub crc_bit : ℕ → ℕ
crc_bit sum = if sum % 2 == 1 then bit_xor (sum / 2) 33800 else sum / 2

abbrev pub crc_byte : ℕ → ℕ
crc_byte sum = crc_bit (crc_bit (crc_bit (crc_bit (crc_bit (crc_bit (crc_bit (crc_bit sum)))))))

abbrev pub crc_onto : ℕ → List ℕ → ℕ
crc_onto sum [] = sum
crc_onto sum (b ∷ bytes) = crc_onto (crc_byte (bit_xor sum b)) bytes

-- The EDC behind these `end` bytes is theirs. With its CRC the remainder of a message is F0B8.
abbrev pub is_checked : Edc → List ℕ → (end : ℕ) → Bool
is_checked Lrc bytes end = slice_index bytes end == lrc (take end bytes)
is_checked Crc bytes end = crc_onto 65535 (take (end + 2) bytes) == 61624

abbrev pub damaged_check : Edc → Damage
damaged_check Lrc = damage.Lrc
damaged_check Crc = damage.Crc

pub data Found : Type 0 where
  Valid : (block : Block) → Found
  Damaged : (damage : Damage) → Found
  Cut : Found

abbrev pub seen : declared.Found → Found
seen (code.Valid block) = Valid (said block)
seen (code.Damaged damage) = Damaged damage
seen code.Cut = Cut

-- the field of an I-block has at most 254 bytes
abbrev pub IsShort : Found → Type 0
IsShort (Valid (I number more field)) = length field ≤ 254
IsShort _ = Unit {0}

abbrev pub found_block : (len : ℕ) → Option Block → Found
found_block len None = Damaged damage.Len
found_block len (Some b) = if nat_lt len 255 then Valid b else Damaged damage.Len

abbrev pub found_field : (len : ℕ) → Option Pcb → List ℕ → Found
found_field len None info = Damaged damage.Pcb
found_field len (Some pcb) info = found_block len (block_in (Some (pcb, info)))

-- The EDC is the first to be wrong, then NAD, PCB, and LEN, which is FF or does not suit the PCB.
abbrev pub found_in : Edc → List ℕ → Found
found_in edc bytes =
    let len : ℕ = slice_index bytes 2 in
    if not (is_complete edc bytes) then Cut
    else if not (is_checked edc bytes (len + 3)) then Damaged (damaged_check edc)
    else if not (is_nad (slice_index bytes 0)) then Damaged damage.Nad
    else found_field len (pcb_of (slice_index bytes 1)) (slice_range bytes 3 (len + 3))
