-- The texts of errors.
use Rattle.std.specs.Prelude.{ℕ, List, ◌++◌, codes, decimal}
use Rattle.atr_core.specs.declared.fault.AtrReason.{AtrReason}
use Rattle.atr_core.specs.declared.fault.AtrReason.TheVariants.{NoTs, Cut, TooLong, OutOfOrder, Surplus, CheckMissing, CheckNotDue, CheckWrong}
use Rattle.atr_core.specs.declared.fault.AtrFault.{AtrFault}
use Rattle.atr_core.specs.declared.pps.PpsFault.{PpsFault}
use Rattle.atr_core.specs.declared.pps.PpsFault.TheVariants as pps
use Rattle.atr_core.specs.declared.build_fault.BuildFault.{BuildFault}
use Rattle.atr_core.specs.declared.build_fault.BuildFault.TheVariants as build

-- why bytes are not an answer to reset
abbrev pub reason_text : AtrReason → List ℕ
reason_text NoTs = codes "no TS"
reason_text Cut = codes "cut"
reason_text TooLong = codes "too long"
reason_text OutOfOrder = codes "T out of order"
reason_text Surplus = codes "characters behind the end"
reason_text CheckMissing = codes "check byte missing"
reason_text CheckNotDue = codes "check byte not due"
reason_text CheckWrong = codes "wrong check byte"

-- the reason and its place
abbrev pub fault_text : AtrFault → List ℕ
fault_text fault = reason_text fault.reason ++ codes " at " ++ decimal fault.place

-- why an answer cannot be made of its parts
abbrev pub build_text : BuildFault → List ℕ
build_text build.TooManyHistorical = codes "too many historical bytes"
build_text build.OutOfOrder = codes "T out of order"
build_text build.TooLong = codes "too long"

-- why bytes are not a PPS request or response
abbrev pub pps_text : PpsFault → List ℕ
pps_text pps.NoPpss = codes "no PPSS"
pps_text pps.Cut = codes "cut"
pps_text pps.Reserved = codes "PPS0 reserved"
pps_text pps.Surplus = codes "characters behind the end"
pps_text pps.CheckWrong = codes "wrong check byte"
