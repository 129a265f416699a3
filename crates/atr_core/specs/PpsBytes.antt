-- PPS requests and responses (ISO/IEC 7816-3, clause 9).
use Rattle.std.specs.Prelude.{ℕ, ◌+◌, ◌*◌, ◌/◌, ◌%◌, ◌==◌, ◌&&◌, List, [], ◌∷◌, ◌++◌, length, take, slice_index, Option, Some, None, Bool, true, false, not, nat_lt, nat_le, if◌then◌else◌}
use Rattle.atr_core.specs.Answer.{bit, before, xor_of}
use Rattle.atr_core.specs.Values.{or_else}
use Rattle.atr_core.specs.declared.pps.Pps.{Pps}
use Rattle.atr_core.specs.declared.pps.PpsFault.{PpsFault}
use Rattle.atr_core.specs.declared.pps.PpsFault.TheVariants.{NoPpss, Cut, Reserved, Surplus, CheckWrong}

-- PPSS; PPS0, with T in bits 4 to 1 and bits 5 to 7 for PPS1 to PPS3; and those that are present
abbrev pub pps_body : Pps → List ℕ
pps_body p = 0xFF ∷ (p.t + 16 * bit p.pps1 + 32 * bit p.pps2 + 64 * bit p.pps3)
    ∷ before p.pps1 (before p.pps2 (before p.pps3 []))

-- followed by PCK, which makes the exclusive-or of all 00
abbrev pub pps_characters : Pps → List ℕ
pps_characters p = pps_body p ++ xor_of (pps_body p) ∷ []

-- the index of PCK, by PPS0
abbrev pub pps_end : ℕ → ℕ
pps_end pps0 = 2 + pps0 / 16 % 2 + pps0 / 32 % 2 + pps0 / 64 % 2

-- the first fault of bytes as a request or response, in this order
abbrev pub pps_fault : List ℕ → Option PpsFault
pps_fault bytes =
    let pps0 : ℕ = slice_index bytes 1 in
    let end : ℕ = pps_end pps0 in
    if length bytes == 0 then Some Cut
    else if not (slice_index bytes 0 == 0xFF) then Some NoPpss
    else if length bytes == 1 then Some Cut
    else if nat_le 128 pps0 then Some Reserved
    else if nat_le (length bytes) end then Some Cut
    else if nat_lt (end + 1) (length bytes) then Some Surplus
    else if slice_index bytes end == xor_of (take end bytes) then None
    else Some CheckWrong

-- a character of a response repeats the request's, or is absent
abbrev pub answers : Option ℕ → Option ℕ → Bool
answers asked None = true
answers None (Some answered) = false
answers (Some asked) (Some answered) = asked == answered

-- the response accepts the request, except for what it omits (9.3)
abbrev pub agreed : Pps → Pps → Bool
agreed request response = request.t == response.t && answers request.pps1 response.pps1
    && answers request.pps2 response.pps2 && answers request.pps3 response.pps3

-- the code of Fi and Di: PPS1, or 11
abbrev pub pps_rate_code : Pps → ℕ
pps_rate_code p = or_else 0x11 p.pps1
