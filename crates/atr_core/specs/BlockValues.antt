-- The values of an answer for T=1 (ISO/IEC 7816-3, clause 11).
use Rattle.std.specs.Prelude.{ℕ, ◌+◌, ◌*◌, ◌^◌, ◌/◌, ◌%◌, ◌==◌, ◌||◌, List, [], ◌∷◌, Option, Some, None, Result, Ok, Err, max, nat_le, if◌then◌else◌}
use Rattle.atr_core.specs.Answer.{Answer}
use Rattle.atr_core.specs.Values.{or_else}
use Rattle.atr_core.specs.declared.edc.Edc.{Edc}
use Rattle.atr_core.specs.declared.edc.Edc.TheVariants.{Lrc, Crc}
use Rattle.atr_core.specs.declared.group.Group.{Group}
use Rattle.atr_core.specs.declared.group.TypedGroup.{TypedGroup}
use Rattle.atr_core.specs.declared.rate.Rfu.{Rfu}
use Rattle.atr_core.specs.declared.timing.BlockWaitingTime.{BlockWaitingTime}

-- a character, or if it is absent, the one found after it
abbrev pub or_first : Option ℕ → Option ℕ → Option ℕ
or_first None behind = behind
or_first (Some b) behind = Some b

-- the first characters for T=1 of a group and of those after it
abbrev pub with_group : TypedGroup → Group → Group
with_group n behind =
    if n.t == 1 then record {
      ta = or_first n.group.ta behind.ta;
      tb = or_first n.group.tb behind.tb;
      tc = or_first n.group.tc behind.tc;
    }
    else behind

-- the first TA, the first TB and the first TC of the groups whose TD names T=1
abbrev pub characters_of_t1 : List TypedGroup → Group
characters_of_t1 [] = record { ta = None; tb = None; tc = None }
characters_of_t1 (n ∷ ns) = with_group n (characters_of_t1 ns)

-- The first TA, the first TB and the first TC for T=1. TA2, TB2 and TC2, which follow TD1, are not
-- for T=1, even if TD1 names it.
abbrev pub first_of_t1 : List TypedGroup → Group
first_of_t1 [] = characters_of_t1 []
first_of_t1 (n ∷ ns) = characters_of_t1 ns

-- IFSC: the first TA for T=1, or 32; 00 and FF are reserved
abbrev pub ifsc : Answer → Result ℕ Rfu
ifsc a =
    let size : ℕ = or_else 32 (first_of_t1 a.others).ta in
    if size == 0 || size == 255 then Err (record {}) else Ok size

-- the first TC for T=1, or 00
abbrev pub edc_code : Answer → ℕ
edc_code a = or_else 0 (first_of_t1 a.others).tc

-- the error detection code: bit 1 means CRC, and bits 8 to 2 are reserved
abbrev pub edc_of : ℕ → Result Edc Rfu
edc_of code = if code == 0 then Ok Lrc else if code == 1 then Ok Crc else Err (record {})

-- the first TB for T=1, or 4D: BWI 4 and CWI 13
abbrev pub waiting_code : Answer → ℕ
waiting_code a = or_else 0x4D (first_of_t1 a.others).tb

-- BWI: bits 8 to 5; 10 to 15 are reserved
abbrev pub block_waiting_integer : Answer → Result ℕ Rfu
block_waiting_integer a =
    let bwi : ℕ = waiting_code a / 16 in if nat_le bwi 9 then Ok bwi else Err (record {})

-- CWI: bits 4 to 1
abbrev pub character_waiting_integer : Answer → ℕ
character_waiting_integer a = waiting_code a % 16

-- CWT in etu
abbrev pub character_waiting_time : Answer → ℕ
character_waiting_time a = 11 + 2 ^ character_waiting_integer a

-- 11 etu and 2^BWI * 960 * 372 clock cycles, both multiplied by `times`
abbrev pub block_waits : ℕ → Result ℕ Rfu → Result BlockWaitingTime Rfu
block_waits times (Err e) = Err e
block_waits times (Ok bwi) =
    Ok (record { etu = times * 11; cycles = times * 2 ^ bwi * 960 * 372 })

-- BWT, multiplied for one block by an S(WTX); a multiplier of 0 counts as 1 (profile)
abbrev pub block_waiting_time : Answer → ℕ → Result BlockWaitingTime Rfu
block_waiting_time a multiplier = block_waits (max multiplier 1) (block_waiting_integer a)

-- BGT in etu
abbrev pub block_guard_time : ℕ
block_guard_time = 22
