-- Rows worked by hand from the standard's tables, and near misses.
use Rattle.std.proofs.Common.{◌≡◌, ℕ, List, [], ◌∷◌, ◌++◌, replicate, Option, Some, None, Ok, Err, true, false, refl}
use Rattle.atr_core.specs.Answer.{Answer, characters}
use Rattle.atr_core.specs.BlockValues.{ifsc, edc_code, edc_of, block_waiting_integer, character_waiting_integer, character_waiting_time, block_waiting_time}
use Rattle.atr_core.specs.Conventions.{as_sent, convention_shown}
use Rattle.atr_core.specs.FirstFault.{first_fault, fault}
use Rattle.atr_core.specs.HistoricalBytes.{category_of, status_of}
use Rattle.atr_core.specs.PpsBytes.{pps_characters, pps_fault, agreed}
use Rattle.atr_core.specs.Values.{protocols_of, fi_of, di_of, guard_time, waiting_integer, waiting_time, mode_of, clock_stop_of, classes_of, supply_code}
use Rattle.atr_core.specs.declared.convention.Convention.TheVariants.{Direct, Inverse}
use Rattle.atr_core.specs.declared.edc.Edc.TheVariants.{Lrc, Crc}
use Rattle.atr_core.specs.declared.fault.AtrReason.TheVariants.{NoTs, Cut, TooLong, OutOfOrder, Surplus, CheckMissing, CheckNotDue, CheckWrong}
use Rattle.atr_core.specs.declared.historical.Category.TheVariants as category
use Rattle.atr_core.specs.declared.pps.Pps.{Pps}
use Rattle.atr_core.specs.declared.pps.PpsFault.TheVariants as pps
use Rattle.atr_core.specs.declared.group.Group.{Group}
use Rattle.atr_core.specs.declared.group.TypedGroup.{TypedGroup}
use Rattle.atr_core.specs.declared.mode.Mode.TheVariants.{Negotiable, Specific}
use Rattle.atr_core.specs.declared.supply.ClockStop.TheVariants as stop

abbrev of : Option ℕ → Option ℕ → Option ℕ → Group
of ta tb tc = record { ta = ta; tb = tb; tc = tc }

abbrev behind : ℕ → Group → TypedGroup
behind t group = record { t = t; group = group }

abbrev answer : Group → List TypedGroup → List ℕ → Answer
answer first others historical =
    record { convention = Direct; first = first; others = others; historical = historical }

abbrev absent : Group
absent = of None None None

-- EMV 4.3, Book 1, 8.3: the basic answer of a card of T=0 alone, with TB1 00 and TC1 00
emv_t0_bytes : characters (answer (of None (Some 0) (Some 0)) [] []) ≡ 0x3B ∷ 0x60 ∷ 0 ∷ 0 ∷ []
emv_t0_bytes = refl

emv_t0_read : first_fault (0x3B ∷ 0x60 ∷ 0 ∷ 0 ∷ []) ≡ None
emv_t0_read = refl

emv_t0_cut : first_fault (0x3B ∷ 0x60 ∷ 0 ∷ []) ≡ fault 3 Cut
emv_t0_cut = refl

-- the same of T=1: TD1 81, TD2 31, TA3 20, TB3 45, and TCK, which is E0 xor 81 xor 31 xor 20 xor 45
emv_t1_bytes : characters (answer (of None (Some 0) (Some 0))
    (behind 1 absent ∷ behind 1 (of (Some 0x20) (Some 0x45) None) ∷ []) [])
    ≡ 0x3B ∷ 0xE0 ∷ 0 ∷ 0 ∷ 0x81 ∷ 0x31 ∷ 0x20 ∷ 0x45 ∷ 0x35 ∷ []
emv_t1_bytes = refl

emv_t1_read : first_fault (0x3B ∷ 0xE0 ∷ 0 ∷ 0 ∷ 0x81 ∷ 0x31 ∷ 0x20 ∷ 0x45 ∷ 0x35 ∷ []) ≡ None
emv_t1_read = refl

emv_t1_wrong : first_fault (0x3B ∷ 0xE0 ∷ 0 ∷ 0 ∷ 0x81 ∷ 0x31 ∷ 0x20 ∷ 0x45 ∷ 0x34 ∷ [])
    ≡ fault 8 CheckWrong
emv_t1_wrong = refl

emv_t1_missing : first_fault (0x3B ∷ 0xE0 ∷ 0 ∷ 0 ∷ 0x81 ∷ 0x31 ∷ 0x20 ∷ 0x45 ∷ [])
    ≡ fault 8 CheckMissing
emv_t1_missing = refl

-- a wrong check byte counts only after all other faults
emv_t1_longer : first_fault (0x3B ∷ 0xE0 ∷ 0 ∷ 0 ∷ 0x81 ∷ 0x31 ∷ 0x20 ∷ 0x45 ∷ 0x34 ∷ 0 ∷ [])
    ≡ fault 9 Surplus
emv_t1_longer = refl

-- the shortest answer, and a fault at each of its places
least : first_fault (0x3B ∷ 0x00 ∷ []) ≡ None
least = refl

least_inverse : first_fault (0x3F ∷ 0x00 ∷ []) ≡ None
least_inverse = refl

nothing : first_fault [] ≡ fault 0 Cut
nothing = refl

no_ts : first_fault (0x3C ∷ 0x00 ∷ []) ≡ fault 0 NoTs
no_ts = refl

no_t0 : first_fault (0x3B ∷ []) ≡ fault 1 Cut
no_t0 = refl

one_behind : first_fault (0x3B ∷ 0x00 ∷ 0x00 ∷ []) ≡ fault 2 CheckNotDue
one_behind = refl

two_behind : first_fault (0x3B ∷ 0x00 ∷ 0x00 ∷ 0x00 ∷ []) ≡ fault 2 Surplus
two_behind = refl

no_historical_byte : first_fault (0x3B ∷ 0x01 ∷ []) ≡ fault 2 Cut
no_historical_byte = refl

-- T=0 and then T=1, with TCK 80 xor 80 xor 01; T=0 after T=1; T=15 in TD1, and in TD2
in_order : first_fault (0x3B ∷ 0x80 ∷ 0x80 ∷ 0x01 ∷ 0x01 ∷ []) ≡ None
in_order = refl

out_of_order : first_fault (0x3B ∷ 0x80 ∷ 0x81 ∷ 0x00 ∷ 0x01 ∷ []) ≡ fault 3 OutOfOrder
out_of_order = refl

t15_in_td1 : first_fault (0x3B ∷ 0x80 ∷ 0x0F ∷ 0x8F ∷ []) ≡ fault 2 OutOfOrder
t15_in_td1 = refl

-- T=15 requires a check byte: 80 xor 80 xor 0F
t15_in_td2 : first_fault (0x3B ∷ 0x80 ∷ 0x80 ∷ 0x0F ∷ 0x0F ∷ []) ≡ None
t15_in_td2 = refl

t15_unchecked : first_fault (0x3B ∷ 0x80 ∷ 0x80 ∷ 0x0F ∷ []) ≡ fault 4 CheckMissing
t15_unchecked = refl

-- 32 characters after TS, and 33 with the last one present or not
longest : first_fault (0x3B ∷ (replicate 31 0x80 ++ 0x00 ∷ [])) ≡ None
longest = refl

too_long : first_fault (0x3B ∷ (replicate 32 0x80 ++ 0x00 ∷ [])) ≡ fault 33 TooLong
too_long = refl

too_long_by_check : first_fault (0x3B ∷ (replicate 31 0x80 ++ 0x01 ∷ 0x81 ∷ [])) ≡ fault 33 TooLong
too_long_by_check = refl

announced_34th : first_fault (0x3B ∷ replicate 32 0x80) ≡ fault 33 TooLong
announced_34th = refl

check_byte_34th : first_fault (0x3B ∷ (replicate 31 0x80 ++ 0x01 ∷ [])) ≡ fault 33 TooLong
check_byte_34th = refl

announced_33rd : first_fault (0x3B ∷ replicate 31 0x80) ≡ fault 32 Cut
announced_33rd = refl

check_byte_33rd : first_fault (0x3B ∷ (replicate 30 0x80 ++ 0x01 ∷ [])) ≡ fault 32 CheckMissing
check_byte_33rd = refl

-- conventions: TS as a receiver in direct convention reads it
ts_inverse : as_sent Inverse 0x3F ≡ 0x03
ts_inverse = refl

ts_direct : as_sent Direct 0x3B ≡ 0x3B
ts_direct = refl

a4_inverse : as_sent Inverse 0xA4 ≡ 0xDA
a4_inverse = refl

shown_03 : convention_shown 0x03 ≡ Some Inverse
shown_03 = refl

shown_3F : convention_shown 0x3F ≡ None
shown_3F = refl

-- the tables of Fi and Di
fi_11 : fi_of 0x11 ≡ Ok (record { value = 372; max_khz = 5000 })
fi_11 = refl

fi_01 : fi_of 0x01 ≡ Ok (record { value = 372; max_khz = 4000 })
fi_01 = refl

fi_95 : fi_of 0x95 ≡ Ok (record { value = 512; max_khz = 5000 })
fi_95 = refl

fi_D5 : fi_of 0xD5 ≡ Ok (record { value = 2048; max_khz = 20000 })
fi_D5 = refl

fi_75 : fi_of 0x75 ≡ Err (record {})
fi_75 = refl

fi_E5 : fi_of 0xE5 ≡ Err (record {})
fi_E5 = refl

di_11 : di_of 0x11 ≡ Ok 1
di_11 = refl

di_95 : di_of 0x95 ≡ Ok 16
di_95 = refl

di_17 : di_of 0x17 ≡ Ok 64
di_17 = refl

di_18 : di_of 0x18 ≡ Ok 12
di_18 = refl

di_10 : di_of 0x10 ≡ Err (record {})
di_10 = refl

di_1A : di_of 0x1A ≡ Err (record {})
di_1A = refl

-- protocols: T=0 by default; T=0 and T=1, with T=1 named twice and T=15 last; T=15 is not one
by_default : protocols_of [] ≡ 0 ∷ []
by_default = refl

two_protocols : protocols_of (behind 0 absent ∷ behind 1 absent ∷ behind 1 absent
    ∷ behind 15 absent ∷ []) ≡ 0 ∷ 1 ∷ []
two_protocols = refl

-- N = 2 and N = 255, without T=15 and with it
guard_2 : guard_time (answer (of None None (Some 2)) [] []) 0
    ≡ record { etu = 14; indicated = 0 }
guard_2 = refl

guard_2_with_15 : guard_time (answer (of None None (Some 2))
    (behind 0 absent ∷ behind 15 absent ∷ []) []) 0 ≡ record { etu = 12; indicated = 2 }
guard_2_with_15 = refl

guard_255_t0 : guard_time (answer (of None None (Some 255)) [] []) 0
    ≡ record { etu = 12; indicated = 0 }
guard_255_t0 = refl

guard_255_t1 : guard_time (answer (of None None (Some 255)) (behind 1 absent ∷ []) []) 1
    ≡ record { etu = 11; indicated = 0 }
guard_255_t1 = refl

guard_254 : guard_time (answer (of None None (Some 254)) [] []) 1
    ≡ record { etu = 266; indicated = 0 }
guard_254 = refl

-- WI 10 and Fi 372: a second at 3.5712 MHz
waits_a_second : waiting_time (answer absent [] []) ≡ Ok 3571200
waits_a_second = refl

waits_by_tc2 : waiting_time (answer (of (Some 0x95) None None)
    (behind 0 (of None None (Some 50)) ∷ []) []) ≡ Ok 24576000
waits_by_tc2 = refl

wi_0 : waiting_integer (answer absent (behind 0 (of None None (Some 0)) ∷ []) [])
    ≡ Err (record {})
wi_0 = refl

waits_by_no_fi : waiting_time (answer (of (Some 0x75) None None) [] []) ≡ Err (record {})
waits_by_no_fi = refl

-- T=1 (clause 11): EMV's TA3 FE and TB3 45, so 11 + 32 etu and 16 * 960 * 372 cycles
abbrev of_t1 : Option ℕ → Option ℕ → Option ℕ → Answer
of_t1 ta tb tc = answer absent (behind 1 absent ∷ behind 1 (of ta tb tc) ∷ []) []

emv_ifsc : ifsc (of_t1 (Some 0xFE) (Some 0x45) None) ≡ Ok 254
emv_ifsc = refl

emv_cwt : character_waiting_time (of_t1 (Some 0xFE) (Some 0x45) None) ≡ 43
emv_cwt = refl

emv_bwt : block_waiting_time (of_t1 (Some 0xFE) (Some 0x45) None) 1
    ≡ Ok (record { etu = 11; cycles = 5713920 })
emv_bwt = refl

-- by default IFSC 32, BWI 4, CWI 13, LRC
abbrev plain_t1 : Answer
plain_t1 = of_t1 None None None

default_ifsc : ifsc plain_t1 ≡ Ok 32
default_ifsc = refl

default_cwt : character_waiting_time plain_t1 ≡ 8203
default_cwt = refl

default_bwt : block_waiting_time plain_t1 1 ≡ Ok (record { etu = 11; cycles = 5713920 })
default_bwt = refl

default_edc : edc_of (edc_code plain_t1) ≡ Ok Lrc
default_edc = refl

-- TA2, TB2 and TC2 are not for T=1 if TD1 names it, nor is TA3 if TD2 names T=15
abbrev second_of_t1 : Answer
second_of_t1 = answer absent (behind 1 (of (Some 0x81) (Some 0x91) (Some 1)) ∷ []) []

no_ifsc_in_ta2 : ifsc second_of_t1 ≡ Ok 32
no_ifsc_in_ta2 = refl

no_cwi_in_tb2 : character_waiting_integer second_of_t1 ≡ 13
no_cwi_in_tb2 = refl

no_edc_in_tc2 : edc_of (edc_code second_of_t1) ≡ Ok Lrc
no_edc_in_tc2 = refl

no_ifsc_behind_t15 : ifsc (answer absent
    (behind 1 absent ∷ behind 15 (of (Some 0xC7) None None) ∷ []) []) ≡ Ok 32
no_ifsc_behind_t15 = refl

-- after T=0 in TD1; of two groups each character is the first one
ifsc_behind_t0 : ifsc (answer absent
    (behind 0 absent ∷ behind 1 (of (Some 0x40) None None) ∷ []) []) ≡ Ok 64
ifsc_behind_t0 = refl

abbrev two_of_t1 : Answer
two_of_t1 = answer absent (behind 1 absent ∷ behind 1 (of None (Some 0x92) None)
    ∷ behind 1 (of (Some 0x50) (Some 0x45) (Some 1)) ∷ behind 1 (of (Some 0x60) None None) ∷ []) []

first_ta : ifsc two_of_t1 ≡ Ok 80
first_ta = refl

first_tb : block_waiting_integer two_of_t1 ≡ Ok 9
first_tb = refl

first_tc : edc_of (edc_code two_of_t1) ≡ Ok Crc
first_tc = refl

-- 00 and FF are reserved for IFSC, 10 to 15 for BWI, and anything above 1 for the code
ifsc_00 : ifsc (of_t1 (Some 0) None None) ≡ Err (record {})
ifsc_00 = refl

ifsc_01 : ifsc (of_t1 (Some 1) None None) ≡ Ok 1
ifsc_01 = refl

ifsc_FF : ifsc (of_t1 (Some 0xFF) None None) ≡ Err (record {})
ifsc_FF = refl

bwi_A : block_waiting_integer (of_t1 None (Some 0xA0) None) ≡ Err (record {})
bwi_A = refl

bwt_A : block_waiting_time (of_t1 None (Some 0xA0) None) 1 ≡ Err (record {})
bwt_A = refl

cwt_A0 : character_waiting_time (of_t1 None (Some 0xA0) None) ≡ 12
cwt_A0 = refl

edc_02 : edc_of 2 ≡ Err (record {})
edc_02 = refl

edc_80 : edc_of 0x80 ≡ Err (record {})
edc_80 = refl

-- the longest times, and S(WTX)
cwt_9F : character_waiting_time (of_t1 None (Some 0x9F) None) ≡ 32779
cwt_9F = refl

bwt_9F : block_waiting_time (of_t1 None (Some 0x9F) None) 1
    ≡ Ok (record { etu = 11; cycles = 182845440 })
bwt_9F = refl

bwt_extended : block_waiting_time (of_t1 None (Some 0x00) None) 255
    ≡ Ok (record { etu = 2805; cycles = 91065600 })
bwt_extended = refl

bwt_by_0 : block_waiting_time (of_t1 None (Some 0x00) None) 0
    ≡ Ok (record { etu = 11; cycles = 357120 })
bwt_by_0 = refl

-- TA2
negotiable : mode_of None ≡ Negotiable
negotiable = refl

specific_81 : mode_of (Some 0x81) ≡ Specific 1 false false
specific_81 = refl

specific_10 : mode_of (Some 0x10) ≡ Specific 0 true true
specific_10 = refl

-- the first TA for T=15
supply_C7 : supply_code (answer absent (behind 0 (of (Some 0x11) None None)
    ∷ behind 15 absent ∷ behind 15 (of (Some 0xC7) None None) ∷ []) []) ≡ 0xC7
supply_C7 = refl

supply_none : supply_code (answer absent (behind 0 (of (Some 0x11) None None) ∷ []) []) ≡ 0x01
supply_none = refl

stop_00 : clock_stop_of 0x01 ≡ stop.NotSupported
stop_00 = refl

stop_01 : clock_stop_of 0x41 ≡ stop.AtLow
stop_01 = refl

stop_10 : clock_stop_of 0x81 ≡ stop.AtHigh
stop_10 = refl

stop_11 : clock_stop_of 0xC7 ≡ stop.AtEither
stop_11 = refl

class_a : classes_of 0x01 ≡ Ok (record { a = true; b = false; c = false })
class_a = refl

classes_bc : classes_of 0xC6 ≡ Ok (record { a = false; b = true; c = true })
classes_bc = refl

classes_all : classes_of 0x87 ≡ Ok (record { a = true; b = true; c = true })
classes_all = refl

-- A and C without B are reserved
classes_ac : classes_of 0x05 ≡ Err (record {})
classes_ac = refl

-- PPS: T=0 with PPS1 95, where PCK is FF xor 10 xor 95; its near misses
abbrev asked : ℕ → Option ℕ → Pps
asked t pps1 = record { t = t; pps1 = pps1; pps2 = None; pps3 = None }

pps_95 : pps_characters (asked 0 (Some 0x95)) ≡ 0xFF ∷ 0x10 ∷ 0x95 ∷ 0x7A ∷ []
pps_95 = refl

pps_all : pps_characters (record { t = 1; pps1 = Some 0x11; pps2 = Some 0; pps3 = Some 0xFF })
    ≡ 0xFF ∷ 0x71 ∷ 0x11 ∷ 0x00 ∷ 0xFF ∷ 0x60 ∷ []
pps_all = refl

pps_read : pps_fault (0xFF ∷ 0x10 ∷ 0x95 ∷ 0x7A ∷ []) ≡ None
pps_read = refl

pps_wrong : pps_fault (0xFF ∷ 0x10 ∷ 0x95 ∷ 0x7B ∷ []) ≡ Some pps.CheckWrong
pps_wrong = refl

pps_cut : pps_fault (0xFF ∷ 0x10 ∷ 0x95 ∷ []) ≡ Some pps.Cut
pps_cut = refl

pps_long : pps_fault (0xFF ∷ 0x00 ∷ 0xFF ∷ 0x00 ∷ []) ≡ Some pps.Surplus
pps_long = refl

pps_reserved : pps_fault (0xFF ∷ 0x80 ∷ 0x7F ∷ []) ≡ Some pps.Reserved
pps_reserved = refl

pps_none : pps_fault (0xFE ∷ []) ≡ Some pps.NoPpss
pps_none = refl

-- a response may repeat PPS1 or omit it, and nothing else
echoed : agreed (asked 0 (Some 0x95)) (asked 0 (Some 0x95)) ≡ true
echoed = refl

left_out : agreed (asked 0 (Some 0x95)) (asked 0 None) ≡ true
left_out = refl

other_rate : agreed (asked 0 (Some 0x95)) (asked 0 (Some 0x94)) ≡ false
other_rate = refl

other_protocol : agreed (asked 0 (Some 0x95)) (asked 1 (Some 0x95)) ≡ false
other_protocol = refl

not_asked_for : agreed (asked 0 None) (asked 0 (Some 0x11)) ≡ false
not_asked_for = refl

-- historical bytes: categories, and the status in 00 and in 80
no_category : category_of [] ≡ category.Absent
no_category = refl

category_81 : category_of (0x81 ∷ []) ≡ category.Reserved
category_81 = refl

category_90 : category_of (0x90 ∷ []) ≡ category.Proprietary
category_90 = refl

category_10 : category_of (0x10 ∷ 0x01 ∷ []) ≡ category.DirReference
category_10 = refl

status_behind : status_of (0x00 ∷ 0x73 ∷ 0x11 ∷ 0x22 ∷ 0x33 ∷ 0x05 ∷ 0x90 ∷ 0x00 ∷ [])
    ≡ Some (record { life_cycle = Some 5; sw = Some (0x90, 0x00) })
status_behind = refl

status_too_short : status_of (0x00 ∷ 0x90 ∷ 0x00 ∷ []) ≡ None
status_too_short = refl

status_object : status_of (0x80 ∷ 0x31 ∷ 0xC0 ∷ 0x82 ∷ 0x90 ∷ 0x00 ∷ [])
    ≡ Some (record { life_cycle = None; sw = Some (0x90, 0x00) })
status_object = refl

-- 82 90 in the value of another object is not a status
no_status_object : status_of (0x80 ∷ 0x33 ∷ 0xC0 ∷ 0x82 ∷ 0x90 ∷ []) ≡ None
no_status_object = refl

no_status_in_10 : status_of (0x10 ∷ 0x05 ∷ 0x90 ∷ 0x00 ∷ []) ≡ None
no_status_in_10 = refl
