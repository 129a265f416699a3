-- Characters of the line (ISO/IEC 7816-3, clause 10).
use Rattle.std.specs.Prelude.{ℕ, List, map}
use Rattle.t0_core.specs.declared.end.End.{End}

-- a character on the line, with the end that sent it
abbrev pub Character : Type 0
Character = End × ℕ

abbrev pub sent_by : End → List ℕ → List Character
sent_by from bytes = map (λ byte. (from, byte)) bytes
