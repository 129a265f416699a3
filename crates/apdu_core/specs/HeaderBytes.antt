-- The header of a command (ISO/IEC 7816-4, 5.1).
use Rattle.std.specs.Prelude.{ℕ, ◌/◌, List, [], ◌∷◌, Bool, ◌==◌, ◌&&◌, not}
use Rattle.apdu_core.specs.declared.header.Header.{Header}

-- CLA INS P1 P2
abbrev pub header_bytes : Header → List ℕ
header_bytes h = h.cla ∷ h.ins ∷ h.p1 ∷ h.p2 ∷ []

-- 6X and 9X are the first bytes of statuses, not instructions
abbrev pub ins_is_valid : ℕ → Bool
ins_is_valid ins = not (ins / 16 == 6) && not (ins / 16 == 9)
