-- Historical bytes (ISO/IEC 7816-4, 12.1.1).
use Rattle.std.specs.Prelude.{ℕ, zero, suc, ◌-◌, ◌/◌, ◌%◌, ◌==◌, ◌&&◌, ◌||◌, not, List, [], ◌∷◌, length, drop, Option, Some, None, nat_lt, nat_le, if◌then◌else◌}
use Rattle.atr_core.specs.declared.historical.Category.{Category}
use Rattle.atr_core.specs.declared.historical.Category.TheVariants.{Absent, StatusBehind, DirReference, Objects, Reserved, Proprietary}
use Rattle.atr_core.specs.declared.historical.CardStatus.{CardStatus}

-- the category, by the first byte
abbrev pub category_of : List ℕ → Category
category_of [] = Absent
category_of (b ∷ bytes) =
    if b == 0x00 then StatusBehind
    else if b == 0x10 then DirReference
    else if b == 0x80 then Objects
    else if nat_le 0x81 b && nat_le b 0x8F then Reserved
    else Proprietary

-- A status: the life cycle in one byte, SW1 and SW2 in two, all of them in three.
abbrev pub status_from : List ℕ → Option CardStatus
status_from (l ∷ []) = Some (record { life_cycle = Some l; sw = None })
status_from (m ∷ n ∷ []) = Some (record { life_cycle = None; sw = Some (m, n) })
status_from (l ∷ m ∷ n ∷ []) = Some (record { life_cycle = Some l; sw = Some (m, n) })
status_from _ = None

-- The status among objects in COMPACT-TLV. Bits 8 to 5 of an object's first byte are its tag, bits
-- 4 to 1 the length of its value, which follows. The status is the last object, with tag 8. The
-- first `skipped` bytes belong to the value of an object before.
abbrev pub compact_status : ℕ → List ℕ → Option CardStatus
compact_status skipped [] = None
compact_status (suc skipped) (b ∷ bytes) = compact_status skipped bytes
compact_status zero (b ∷ bytes) =
    if b / 16 == 8 && length bytes == b % 16 then status_from bytes
    else compact_status (b % 16) bytes

-- The status of a card: the last three bytes in category 00, and the last object in category 80.
abbrev pub status_of : List ℕ → Option CardStatus
status_of [] = None
status_of (b ∷ bytes) =
    if b == 0x80 then compact_status 0 bytes
    else if not (b == 0x00) || nat_lt (length bytes) 3 then None
    else status_from (drop (length bytes - 3) bytes)
