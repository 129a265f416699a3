-- The first fault of bytes that are not an answer to reset (ISO/IEC 7816-3, 8.2). The order of
-- faults is this project's profile.
use Rattle.std.specs.Prelude.{ℕ, ◌+◌, ◌/◌, ◌%◌, ◌==◌, ◌||◌, not, List, [], ◌∷◌, Option, Some, None, Bool, true, false, replicate, slice_range, is_some, if◌then◌else◌}
use Rattle.atr_core.specs.Answer.{may_follow, xor_of}
use Rattle.atr_core.specs.Conventions.{convention_of}
use Rattle.atr_core.specs.declared.fault.AtrFault.{AtrFault}
use Rattle.atr_core.specs.declared.fault.AtrReason.{AtrReason}
use Rattle.atr_core.specs.declared.fault.AtrReason.TheVariants.{NoTs, Cut, TooLong, OutOfOrder, Surplus, CheckMissing, CheckNotDue, CheckWrong}

-- A kind of expected character: TS, T0, a TD, or one that announces nothing (a TA, TB, TC or
-- historical byte).
pub data Due : Type 0 where
  Ts T0 Td Plain : Due

abbrev pub when : ℕ → Due → List Due → List Due
when bit character due = if bit == 1 then character ∷ due else due

-- what Y announces (bit 5: TA, bit 6: TB, bit 7: TC, bit 8: TD), before what was expected already
abbrev pub announced : ℕ → List Due → List Due
announced y due =
    when (y % 2) Plain (when (y / 2 % 2) Plain (when (y / 4 % 2) Plain (when (y / 8) Td due)))

-- the characters expected after a character
abbrev pub due_after : Due → ℕ → List Due → List Due
due_after T0 b due = announced (b / 16) (replicate (b % 16) Plain)
due_after Td b due = announced (b / 16) due
due_after _ b due = due

-- the last T that was named, after a character
abbrev pub last_after : Due → ℕ → Option ℕ → Option ℕ
last_after Td b last = Some (b % 16)
last_after _ b last = last

-- whether a T other than 0 was named, after a character
abbrev pub checked_after : Due → ℕ → Bool → Bool
checked_after Td b checked = checked || not (b % 16 == 0)
checked_after _ b checked = checked

-- the fault of an expected character at a place from 0 to 32, if any
abbrev pub wrong_with : Due → ℕ → Option ℕ → Option AtrReason
wrong_with Ts b last = if is_some (convention_of b) then None else Some NoTs
wrong_with Td b last = if may_follow last (b % 16) then None else Some OutOfOrder
wrong_with _ b last = None

-- the fault of an expected character at this place, if any
abbrev pub wrong_at : ℕ → Due → ℕ → Option ℕ → Option AtrReason
wrong_at place character b last =
    if place == 33 then Some TooLong else wrong_with character b last

abbrev pub fault : ℕ → AtrReason → Option AtrFault
fault place reason = Some (record { place = place; reason = reason })

-- A character is expected, and the bytes end here. After 33 bytes none may follow (8.2.1: at most
-- 32 characters after TS).
abbrev pub missing : ℕ → AtrReason → Option AtrFault
missing place reason = fault place (if place == 33 then TooLong else reason)

-- The fault of the bytes from a place on, if only a check byte can be expected there. `checked`
-- means that it is. A wrong check byte counts last.
abbrev pub end_fault : List ℕ → Bool → ℕ → List ℕ → Option AtrFault
end_fault all false place [] = None
end_fault all false place (b ∷ []) = fault place CheckNotDue
end_fault all false place (b ∷ c ∷ rest) = fault place Surplus
end_fault all true place [] = missing place CheckMissing
end_fault all true place (b ∷ []) =
    if place == 33 then fault place TooLong
    else if b == xor_of (slice_range all 1 place) then None
    else fault place CheckWrong
end_fault all true place (b ∷ c ∷ rest) =
    if place == 33 then fault place TooLong else fault (place + 1) Surplus

-- the fault of a character at this place, if any, else the first one after it
abbrev pub first_of : ℕ → Option AtrReason → Option AtrFault → Option AtrFault
first_of place (Some reason) behind = fault place reason
first_of place None behind = behind

-- The first fault of the bytes from a place on, if these characters are expected there, from the
-- left. None if they have no fault.
abbrev pub fault_from : List ℕ → List Due → Option ℕ → Bool → ℕ → List ℕ → Option AtrFault
fault_from all [] last checked place rest = end_fault all checked place rest
fault_from all (character ∷ due) last checked place [] = missing place Cut
fault_from all (character ∷ due) last checked place (b ∷ rest) =
    first_of place (wrong_at place character b last)
    (fault_from all (due_after character b due) (last_after character b last)
    (checked_after character b checked) (place + 1) rest)

-- the first fault of bytes as an answer to reset
abbrev pub first_fault : List ℕ → Option AtrFault
first_fault bytes = fault_from bytes (Ts ∷ T0 ∷ []) None false 0 bytes
