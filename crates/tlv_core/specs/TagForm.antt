-- Tags (EMV Book 3, Annex B).
use Rattle.std.specs.Prelude.{◌≡◌, ◌≢◌, ℕ, ◌/◌, ◌%◌, ◌<◌, List, [], ◌∷◌, ◌++◌, Bool, false, ◌==◌}

-- A tag has one to three bytes (at most three: profile). A second byte follows if bits 5 to 1 of
-- the first are all ones. A third follows if bit 8 of the second is set.
abbrev pub IsTag : List ℕ → Type 0
IsTag (a ∷ []) = (0 < a) × (a < 256) × (a % 32 ≢ 31)
IsTag (a ∷ b ∷ []) = (a < 256) × (a % 32 ≡ 31) × (0 < b) × (b < 128)
IsTag (a ∷ b ∷ c ∷ []) = (a < 256) × (a % 32 ≡ 31) × (128 < b) × (b < 256) × (c < 128)
IsTag _ = ⊥

-- bit 6 of the first byte is set: the value is a list of objects
abbrev pub is_constructed : List ℕ → Bool
is_constructed [] = false
is_constructed (a ∷ _) = a / 32 % 2 == 1

abbrev pub IsProperPrefix : List ℕ → List ℕ → Type 0
IsProperPrefix front whole = (rest : List ℕ) × (front ++ rest ≡ whole) × (rest ≢ [])

-- the bytes start with a tag
abbrev pub StartsWithTag : List ℕ → Type 0
StartsWithTag bytes = (tag rest : List ℕ) × IsTag tag × (bytes ≡ tag ++ rest)

-- the bytes end inside a tag, or are empty
abbrev pub EndsInsideTag : List ℕ → Type 0
EndsInsideTag bytes = (tag : List ℕ) × IsTag tag × IsProperPrefix bytes tag
