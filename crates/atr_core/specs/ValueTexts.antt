-- The texts of values in interface bytes.
use Rattle.std.specs.Prelude.{ℕ, List, ◌++◌, ◌==◌, codes, decimal, if◌then◌else◌}
use Rattle.atr_core.specs.declared.convention.Convention.{Convention}
use Rattle.atr_core.specs.declared.convention.Convention.TheVariants.{Direct, Inverse}
use Rattle.atr_core.specs.declared.edc.Edc.{Edc}
use Rattle.atr_core.specs.declared.edc.Edc.TheVariants.{Lrc, Crc}
use Rattle.atr_core.specs.declared.rate.Fi.{Fi}
use Rattle.atr_core.specs.declared.timing.BlockWaitingTime.{BlockWaitingTime}
use Rattle.atr_core.specs.declared.timing.GuardTime.{GuardTime}

abbrev pub convention_text : Convention → List ℕ
convention_text Direct = codes "direct"
convention_text Inverse = codes "inverse"

-- Fi, and the highest clock frequency
abbrev pub fi_text : Fi → List ℕ
fi_text fi = decimal fi.value ++ codes ", up to " ++ decimal fi.max_khz ++ codes " kHz"

-- etu, and Fi/Di clock cycles unless their number is 0
abbrev pub guard_time_text : GuardTime → List ℕ
guard_time_text time =
    if time.indicated == 0 then decimal time.etu ++ codes " etu"
    else decimal time.etu
    ++ (codes " etu and " ++ (decimal time.indicated ++ codes " Fi/Di cycles"))

abbrev pub edc_text : Edc → List ℕ
edc_text Lrc = codes "LRC"
edc_text Crc = codes "CRC"

-- etu and clock cycles
abbrev pub block_waiting_text : BlockWaitingTime → List ℕ
block_waiting_text time = decimal time.etu ++ (codes " etu and " ++ (decimal time.cycles
    ++ codes " cycles"))
