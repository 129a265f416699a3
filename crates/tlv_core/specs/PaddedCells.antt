-- Bytes in an array of n cells, followed by 00.
use Rattle.std.specs.Prelude.{◌≡◌, ℕ, ◌-◌, List, ◌++◌, length, take, replicate}

abbrev pub padded : ℕ → List ℕ → List ℕ
padded n bytes = bytes ++ replicate (n - length bytes) 0

-- The first `len` of n cells are bytes for which P holds, and the others are 00.
pub record ArePadded (P : List ℕ → Type 0) (n : ℕ) (cells : List ℕ) (len : ℕ) : Type 0 where
  pub holds : P (take len cells)
  pub has_len : length (take len cells) ≡ len
  pub is_padded : padded n (take len cells) ≡ cells
