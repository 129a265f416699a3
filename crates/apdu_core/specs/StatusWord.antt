-- Status words (ISO/IEC 7816-4, 5.1, and ISO/IEC 7816-3, 10.3.3).
use Rattle.std.specs.Prelude.{ℕ, ◌<◌, Option, Some, None, Bool, IsTrue, ◌||◌, ◌&&◌, nat_le, ◌==◌, if◌then◌else◌}

-- the two bytes SW1 SW2
abbrev pub StatusWord : Type 0
StatusWord = ℕ × ℕ

-- the values of SW1: 61 to 6F and 90 to 9F
abbrev pub is_first_status : ℕ → Bool
is_first_status byte =
    (nat_le 0x61 byte && nat_le byte 0x6F) || (nat_le 0x90 byte && nat_le byte 0x9F)

-- SW1 is in range, and SW2 is a byte
abbrev pub IsStatusWord : StatusWord → Type 0
IsStatusWord sw = IsTrue (is_first_status sw.0) × (sw.1 < 256)

-- normal processing
abbrev pub ok : StatusWord
ok = (0x90, 0x00)

-- the length that a byte encodes: 00 means 256
abbrev pub count : ℕ → ℕ
count b = if b == 0 then 256 else b

-- 61XX: XX bytes wait
abbrev pub announces : StatusWord → Option ℕ
announces sw = if sw.0 == 0x61 then Some (count sw.1) else None

-- 6CXX: the terminal should have asked for XX bytes
abbrev pub corrects : StatusWord → Option ℕ
corrects sw = if sw.0 == 0x6C then Some (count sw.1) else None
