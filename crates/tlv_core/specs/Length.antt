-- Lengths of values (EMV Book 3, Annex B).
use Rattle.std.specs.Prelude.{◌≡◌, ℕ, ◌+◌, ◌*◌, ◌/◌, ◌%◌, ◌<◌, List, [], ◌∷◌, ◌++◌, nat_lt, if◌then◌else◌}
use Rattle.tlv_core.specs.TagForm.{IsProperPrefix}

-- these bytes spell the length n
abbrev pub SpellsLength : List ℕ → ℕ → Type 0
SpellsLength (a ∷ []) n = (a < 0x80) × (n ≡ a)
SpellsLength (a ∷ b ∷ []) n = (a ≡ 0x81) × (b < 256) × (n ≡ b)
SpellsLength (a ∷ b ∷ c ∷ []) n = (a ≡ 0x82) × (b < 256) × (c < 256) × (n ≡ 256 * b + c)
SpellsLength _ n = ⊥

-- the shortest bytes that spell n
abbrev pub shortest : ℕ → List ℕ
shortest n =
    if nat_lt n 0x80 then n ∷ []
    else if nat_lt n 0x100 then 0x81 ∷ n ∷ []
    else 0x82 ∷ n / 256 ∷ n % 256 ∷ []

-- the bytes start with the spelling of some length
abbrev pub StartsWithLength : List ℕ → Type 0
StartsWithLength bytes = (size rest : List ℕ) × (n : ℕ) × SpellsLength size n
    × (bytes ≡ size ++ rest)

-- the bytes end inside a spelled length, or are empty
abbrev pub EndsInsideLength : List ℕ → Type 0
EndsInsideLength bytes = (size : List ℕ) × (n : ℕ) × SpellsLength size n × IsProperPrefix bytes size
