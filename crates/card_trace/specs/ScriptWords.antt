-- The words of a line.
use Rattle.std.specs.Prelude.{ℕ, List, [], ◌∷◌, length, filter, nat_lt, if◌then◌else◌, ◌==◌}
use Rattle.std.specs.List.{slice_split}

-- the parts between spaces that are not empty
abbrev pub words_in : List ℕ → List (List ℕ)
words_in text = filter (λ word. nat_lt 0 (length word)) (slice_split (λ byte. byte == 0x20) text)

-- The words of a line. A comment, which starts with `#`, has none. A line without words is passed
-- over.
abbrev pub words_of : List ℕ → List (List ℕ)
words_of [] = []
words_of (byte ∷ bytes) = if byte == 0x23 then [] else words_in (byte ∷ bytes)
