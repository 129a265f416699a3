-- The values in the interface bytes of an answer (ISO/IEC 7816-3, 8.3).
use Rattle.std.specs.Prelude.{ℕ, ◌+◌, ◌*◌, ◌/◌, ◌%◌, ◌==◌, List, [], ◌∷◌, get_or, Option, Some, None, Result, Ok, Err, Bool, true, false, not, ◌&&◌, is_some, if◌then◌else◌}
use Rattle.std.specs.List.{list_any}
use Rattle.atr_core.specs.Answer.{Answer}
use Rattle.atr_core.specs.declared.group.Group.{Group}
use Rattle.atr_core.specs.declared.group.TypedGroup.{TypedGroup}
use Rattle.atr_core.specs.declared.rate.Fi.{Fi}
use Rattle.atr_core.specs.declared.rate.Rfu.{Rfu}
use Rattle.atr_core.specs.declared.timing.GuardTime.{GuardTime}
use Rattle.atr_core.specs.declared.mode.Mode.{Mode}
use Rattle.atr_core.specs.declared.mode.Mode.TheVariants.{Negotiable, Specific}
use Rattle.atr_core.specs.declared.supply.ClockStop.{ClockStop}
use Rattle.atr_core.specs.declared.supply.ClockStop.TheVariants as stop
use Rattle.atr_core.specs.declared.supply.Classes.{Classes}

-- Whether a T is a new offer: 15 is not a protocol, and a T named again is not new.
abbrev pub is_offer : Option ℕ → ℕ → Bool
is_offer None t = not (t == 15)
is_offer (Some last) t = not (t == 15) && not (t == last)

-- the protocols that TDs offer, in order, after a TD that named `last`
abbrev pub offered : Option ℕ → List TypedGroup → List ℕ
offered last [] = []
offered last (n ∷ ns) = if is_offer last n.t then n.t ∷ offered (Some n.t) ns
    else offered (Some n.t) ns

-- the protocols in the order offered; T=0 alone if TD1 is absent
abbrev pub protocols_of : List TypedGroup → List ℕ
protocols_of [] = 0 ∷ []
protocols_of (n ∷ ns) = offered None (n ∷ ns)

-- whether a TD names T=15, which is not a protocol: the bytes after it hold for all protocols
abbrev pub names_15 : List TypedGroup → Bool
names_15 others = list_any (λ n. n.t == 15) others

abbrev pub or_else : ℕ → Option ℕ → ℕ
or_else default None = default
or_else default (Some b) = b

-- TA2, TB2 and TC2, which follow TD1
abbrev pub second : List TypedGroup → Group
second [] = record { ta = None; tb = None; tc = None }
second (n ∷ ns) = n.group

-- an entry of a table, or an error if its code is reserved for future use
abbrev pub known : {X : Type 0} → Option X → Result X Rfu
known None = Err (record {})
known (Some x) = Ok x

abbrev pub fi : ℕ → ℕ → Option Fi
fi value max_khz = Some (record { value = value; max_khz = max_khz })

-- Fi and f max in kHz, by bits 8 to 5 of TA1 from 0000 to 1111 (8.3, table 7)
abbrev pub fi_table : List (Option Fi)
fi_table =
    fi 372 4000 ∷ fi 372 5000 ∷ fi 558 6000 ∷ fi 744 8000
    ∷ fi 1116 12000 ∷ fi 1488 16000 ∷ fi 1860 20000 ∷ None
    ∷ None ∷ fi 512 5000 ∷ fi 768 7500 ∷ fi 1024 10000
    ∷ fi 1536 15000 ∷ fi 2048 20000 ∷ None ∷ None ∷ []

-- Di, by bits 4 to 1 of TA1 from 0000 to 1111 (8.3, table 8)
abbrev pub di_table : List (Option ℕ)
di_table =
    None ∷ Some 1 ∷ Some 2 ∷ Some 4 ∷ Some 8 ∷ Some 16 ∷ Some 32 ∷ Some 64
    ∷ Some 12 ∷ Some 20 ∷ None ∷ None ∷ None ∷ None ∷ None ∷ None ∷ []

abbrev pub fi_of : ℕ → Result Fi Rfu
fi_of code = known (get_or fi_table (code / 16) None)

abbrev pub di_of : ℕ → Result ℕ Rfu
di_of code = known (get_or di_table (code % 16) None)

-- TA1, or 11 (Fi 372 and Di 1) if it is absent
abbrev pub rate_code : Answer → ℕ
rate_code a = or_else 0x11 a.first.ta

-- N: TC1, or 0
abbrev pub extra_guard_time : Answer → ℕ
extra_guard_time a = or_else 0 a.first.tc

-- The guard time of a protocol, in etu and in Fi/Di clock cycles. N = 255 means the least of the
-- protocol: 11 etu for T=1, 12 for any other. Any other N adds to 12 etu: N etu if T=15 is absent,
-- N times Fi/Di cycles if it is present.
abbrev pub guard_time : Answer → ℕ → GuardTime
guard_time a t =
    let n : ℕ = extra_guard_time a in
    if n == 255 then record { etu = (if t == 1 then 11 else 12); indicated = 0 }
    else if names_15 a.others then record { etu = 12; indicated = n }
    else record { etu = 12 + n; indicated = 0 }

-- WI: TC2, or 10 if it is absent; 00 is reserved (10.2)
abbrev pub waiting_integer : Answer → Result ℕ Rfu
waiting_integer a =
    let wi : ℕ = or_else 10 (second a.others).tc in
    if wi == 0 then Err (record {}) else Ok wi

-- WI times 960 times Fi
abbrev pub cycles : Result ℕ Rfu → Result Fi Rfu → Result ℕ Rfu
cycles (Err e) rate = Err e
cycles (Ok wi) (Err e) = Err e
cycles (Ok wi) (Ok rate) = Ok (wi * 960 * rate.value)

-- the waiting time in clock cycles (10.2)
abbrev pub waiting_time : Answer → Result ℕ Rfu
waiting_time a = cycles (waiting_integer a) (fi_of (rate_code a))

-- The mode by TA2 (8.3). If TA2 is present, the card is in specific mode, with the T of bits 4 to
-- 1. Bit 8: it cannot change to negotiable mode. Bit 5: Fi and Di are implicit, not those of TA1.
abbrev pub mode_of : Option ℕ → Mode
mode_of None = Negotiable
mode_of (Some b) = Specific (b % 16) (b / 128 == 0) (b / 16 % 2 == 1)

-- the first TA for T=15
abbrev pub ta_of_15 : List TypedGroup → Option ℕ
ta_of_15 [] = None
ta_of_15 (n ∷ ns) = if n.t == 15 && is_some n.group.ta then n.group.ta else ta_of_15 ns

-- that TA, or class A alone and no clock stop if it is absent
abbrev pub supply_code : Answer → ℕ
supply_code a = or_else 0x01 (ta_of_15 a.others)

-- bits 8 and 7 of that TA
abbrev pub clock_stop_of : ℕ → ClockStop
clock_stop_of code =
    if code / 64 == 0 then stop.NotSupported
    else if code / 64 == 1 then stop.AtLow
    else if code / 64 == 2 then stop.AtHigh
    else stop.AtEither

abbrev pub classes : Bool → Bool → Bool → Result Classes Rfu
classes a b c = Ok (record { a = a; b = b; c = c })

-- bits 6 to 1 of that TA: A is 5 V, B 3 V, C 1.8 V
abbrev pub classes_of : ℕ → Result Classes Rfu
classes_of code =
    let y : ℕ = code % 64 in
    if y == 1 then classes true false false
    else if y == 2 then classes false true false
    else if y == 4 then classes false false true
    else if y == 3 then classes true true false
    else if y == 6 then classes false true true
    else if y == 7 then classes true true true
    else Err (record {})
