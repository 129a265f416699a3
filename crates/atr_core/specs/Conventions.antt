-- The two conventions (ISO/IEC 7816-3, 8.1).
use Rattle.std.specs.Prelude.{ℕ, ◌+◌, ◌*◌, ◌-◌, ◌/◌, ◌%◌, ◌==◌, Option, Some, None, if◌then◌else◌}
use Rattle.atr_core.specs.declared.convention.Convention.{Convention}
use Rattle.atr_core.specs.declared.convention.Convention.TheVariants.{Direct, Inverse}

-- the convention that TS states
abbrev pub convention_of : ℕ → Option Convention
convention_of ts =
    if ts == 0x3B then Some Direct else if ts == 0x3F then Some Inverse else None

-- the same, from TS as a receiver in direct convention reads it
abbrev pub convention_shown : ℕ → Option Convention
convention_shown first =
    if first == 0x3B then Some Direct else if first == 0x03 then Some Inverse else None

-- the bits of a byte in reverse: bit 1 as bit 8, bit 2 as bit 7, and so on
abbrev pub reversed : ℕ → ℕ
reversed b = 128 * (b % 2) + 64 * (b / 2 % 2) + 32 * (b / 4 % 2) + 16 * (b / 8 % 2)
    + 8 * (b / 16 % 2) + 4 * (b / 32 % 2) + 2 * (b / 64 % 2) + b / 128 % 2

-- What a receiver in direct convention reads if this byte is sent. In inverse convention the
-- highest bit is sent first, and each bit is inverted.
abbrev pub as_sent : Convention → ℕ → ℕ
as_sent Direct b = b
as_sent Inverse b = 255 - reversed b
