-- The pieces of a value, as a function that computes them.
use Rattle.std.specs.Prelude.{ℕ, zero, suc, ◌-◌, ◌/◌, List, [], ◌∷◌, length, take, drop}

-- the given number of pieces of 255 bytes, and the rest as the last piece
abbrev pub cut : ℕ → List ℕ → List (List ℕ)
cut zero value = value ∷ []
cut (suc more) value = take 255 value ∷ cut more (drop 255 value)

abbrev pub pieces_of : List ℕ → List (List ℕ)
pieces_of value = cut ((length value - 1) / 255) value
