-- The parts of printed lines; bytes are two digits each, in upper case.
use Rattle.std.specs.Prelude.{ℕ, List, [], ◌∷◌, codes}
use Rattle.hex.specs.Hex.{encode_upper}

-- every line ends with LF
abbrev pub newline : List ℕ
newline = 10 ∷ []

-- a value, or `-` for no bytes
abbrev pub value_text : List ℕ → List ℕ
value_text [] = codes "-"
value_text (b ∷ bytes) = encode_upper (b ∷ bytes)
