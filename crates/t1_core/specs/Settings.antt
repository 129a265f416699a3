-- The settings of a terminal's end: which EDC and IFSC are refused.
use Rattle.std.specs.Prelude.{ℕ, ◌==◌, Option, Some, None, if◌then◌else◌}
use Rattle.t1_core.specs.declared.settings.Edc.{Edc}
use Rattle.t1_core.specs.declared.settings.Edc.TheVariants.{Lrc, Crc}
use Rattle.t1_core.specs.declared.settings.SettingsFault.{SettingsFault}
use Rattle.t1_core.specs.declared.settings.SettingsFault.TheVariants as fault

abbrev pub fault_of : Edc → ℕ → Option SettingsFault
fault_of Crc ifsc = Some fault.Crc
fault_of Lrc ifsc =
    if ifsc == 0 then Some fault.Ifsc else if ifsc == 255 then Some fault.Ifsc else None
