-- What the export for answers to reset returns and writes.
use Rattle.std.specs.Prelude.{◌≡◌, ◌⊎◌, ℕ, ℤ, ◌+◌, ◌*◌, ◌-◌, List, ◌++◌, drop, length, replicate, Some, Result, Ok, Err, Bool, if◌then◌else◌}
use Rattle.atr_core.specs.Answer.{Answer, IsAnswer, characters, check_field}
use Rattle.atr_core.specs.BlockValues.{block_guard_time, block_waiting_integer, block_waiting_time, character_waiting_integer, character_waiting_time, edc_code, edc_of, ifsc}
use Rattle.atr_core.specs.FirstFault.{first_fault}
use Rattle.atr_core.specs.HistoricalBytes.{category_of}
use Rattle.atr_core.specs.Values.{classes_of, clock_stop_of, di_of, extra_guard_time, fi_of, guard_time, mode_of, names_15, protocols_of, rate_code, second, supply_code, waiting_integer, waiting_time}
use Rattle.atr_core.specs.declared.convention.Convention.{Convention}
use Rattle.atr_core.specs.declared.convention.Convention.TheVariants.{Direct, Inverse}
use Rattle.atr_core.specs.declared.edc.Edc.{Edc}
use Rattle.atr_core.specs.declared.edc.Edc.TheVariants.{Lrc, Crc}
use Rattle.atr_core.specs.declared.fault.AtrFault.{AtrFault}
use Rattle.atr_core.specs.declared.historical.Category.{Category}
use Rattle.atr_core.specs.declared.historical.Category.TheVariants.{Absent, StatusBehind, DirReference, Objects, Reserved, Proprietary}
use Rattle.atr_core.specs.declared.mode.Mode.{Mode}
use Rattle.atr_core.specs.declared.mode.Mode.TheVariants.{Negotiable, Specific}
use Rattle.atr_core.specs.declared.rate.Fi.{Fi}
use Rattle.atr_core.specs.declared.rate.Rfu.{Rfu}
use Rattle.atr_core.specs.declared.supply.Classes.{Classes}
use Rattle.atr_core.specs.declared.supply.ClockStop.{ClockStop}
use Rattle.atr_core.specs.declared.supply.ClockStop.TheVariants as stop
use Rattle.atr_core.specs.declared.timing.BlockWaitingTime.{BlockWaitingTime}
use Rattle.card_c.specs.declared.atr_record.AtrRecord.{AtrRecord}
use Rattle.card_c.specs.declared.atr_record.BlockRecord.{BlockRecord}
use Rattle.card_c.specs.Codes.{gt_ok, atr_code}

-- the header's numbers
abbrev pub convention_number : Convention → ℕ
convention_number Direct = 0
convention_number Inverse = 1

abbrev pub category_number : Category → ℕ
category_number Absent = 0
category_number StatusBehind = 1
category_number DirReference = 2
category_number Objects = 3
category_number Reserved = 4
category_number Proprietary = 5

abbrev pub clock_stop_number : ClockStop → ℕ
clock_stop_number stop.NotSupported = 0
clock_stop_number stop.AtLow = 1
clock_stop_number stop.AtHigh = 2
clock_stop_number stop.AtEither = 3

abbrev pub flag : Bool → ℕ
flag holds = if holds then 1 else 0

-- a value, or 0 if its code is reserved
abbrev pub value_or_0 : Result ℕ Rfu → ℕ
value_or_0 (Ok value) = value
value_or_0 (Err _) = 0

abbrev pub fi_value : Result Fi Rfu → ℕ
fi_value (Ok fi) = fi.value
fi_value (Err _) = 0

abbrev pub fi_max_khz : Result Fi Rfu → ℕ
fi_max_khz (Ok fi) = fi.max_khz
fi_max_khz (Err _) = 0

-- 1 for class A, 2 for B and 4 for C
abbrev pub class_bits : Result Classes Rfu → ℕ
class_bits (Ok classes) = flag classes.a + 2 * flag classes.b + 4 * flag classes.c
class_bits (Err _) = 0

-- the length of an error detection code in bytes
abbrev pub edc_size : Result Edc Rfu → ℕ
edc_size (Ok Lrc) = 1
edc_size (Ok Crc) = 2
edc_size (Err _) = 0

abbrev pub bwt_etu : Result BlockWaitingTime Rfu → ℕ
bwt_etu (Ok time) = time.etu
bwt_etu (Err _) = 0

abbrev pub bwt_cycles : Result BlockWaitingTime Rfu → ℕ
bwt_cycles (Ok time) = time.cycles
bwt_cycles (Err _) = 0

-- Whether the mode is specific; its T, whether the card can change, and whether Fi and Di are
-- implicit.
abbrev pub mode_numbers : Mode → ℕ × ℕ × ℕ × ℕ
mode_numbers Negotiable = (0, 0, 0, 0)
mode_numbers (Specific t can_change implicit) = (1, t, flag can_change, flag implicit)

-- where the historical bytes begin; only TCK follows them
abbrev pub historical_place : Answer → ℕ
historical_place a = length (characters a) - (length a.historical + length (check_field a))

-- protocols, followed by zeros, 15 numbers in all
abbrev pub with_zeros : List ℕ → List ℕ
with_zeros protocols = protocols ++ drop (length protocols) (replicate 15 0)

-- what an answer says about T=1, as C sees it
abbrev pub blocks_recorded : Answer → BlockRecord
blocks_recorded a = record {
  ifsc = value_or_0 (ifsc a);
  edc = edc_size (edc_of (edc_code a));
  bwi = value_or_0 (block_waiting_integer a);
  cwi = character_waiting_integer a;
  cwt_etu = character_waiting_time a;
  bwt_etu = bwt_etu (block_waiting_time a 1);
  bgt_etu = block_guard_time;
  bwt_cycles = bwt_cycles (block_waiting_time a 1);
}

-- what an answer says, as C sees it
abbrev pub atr_recorded : Answer → AtrRecord
atr_recorded a =
    let mode : ℕ × ℕ × ℕ × ℕ = mode_numbers (mode_of (second a.others).ta) in
    record {
      length = length (characters a);
      historical = historical_place a;
      historical_count = length a.historical;
      category = category_number (category_of a.historical);
      convention = convention_number a.convention;
      protocol_count = length (protocols_of a.others);
      protocols = with_zeros (protocols_of a.others);
      names_15 = flag (names_15 a.others);
      rate_code = rate_code a;
      di = value_or_0 (di_of (rate_code a));
      extra_guard_time = extra_guard_time a;
      waiting_integer = value_or_0 (waiting_integer a);
      specific = mode.0;
      specific_t = mode.1;
      can_change = mode.2;
      implicit = mode.3;
      clock_stop = clock_stop_number (clock_stop_of (supply_code a));
      classes = class_bits (classes_of (supply_code a));
      fi = fi_value (fi_of (rate_code a));
      max_khz = fi_max_khz (fi_of (rate_code a));
      guard_etu = (guard_time a 0).etu;
      guard_etu_t1 = (guard_time a 1).etu;
      guard_indicated = (guard_time a 0).indicated;
      waiting_time = value_or_0 (waiting_time a);
      t1 = blocks_recorded a;
    }

-- The bytes are an answer, and its record is written: the historical bytes begin at the written
-- place, and only TCK follows them. Otherwise this is the first fault, and only its place is
-- written.
abbrev pub ReadsAtr : List ℕ → AtrRecord → ℕ → ℤ → AtrRecord → ℕ → Type 0
ReadsAtr bytes atr place code atr' place' =
    ((a : Answer) × IsAnswer a × (bytes ≡ characters a) × (code ≡ gt_ok)
    × (atr' ≡ atr_recorded a) × (drop atr'.historical bytes ≡ a.historical ++ check_field a)
    × (place' ≡ place))
    ⊎ ((fault : AtrFault) × (first_fault bytes ≡ Some fault) × (code ≡ atr_code fault.reason)
    × (place' ≡ fault.place) × (atr' ≡ atr))
