-- Tags as numbers.
use Rattle.std.specs.Prelude.{◌≡◌, ℕ, ◌+◌, ◌*◌, List, [], ◌∷◌, All, map}
use Rattle.tlv_core.specs.TagForm.{IsTag}
use Rattle.tlv_core.specs.Address.{IsAddressable}

-- the bytes of a tag as one number, most significant first: 0x50, 0x5F20, 0x9F8101
abbrev pub tag_number : List ℕ → ℕ
tag_number [] = 0
tag_number (a ∷ []) = a
tag_number (a ∷ b ∷ []) = a * 256 + b
tag_number (a ∷ b ∷ c ∷ more) = (a * 256 + b) * 256 + c

-- this is a tag, and its number
abbrev pub IsTagNumber : ℕ → List ℕ → Type 0
IsTagNumber number tag = IsTag tag × (number ≡ tag_number tag)

-- this is a tag that a command can name, and its number
abbrev pub IsNumbered : ℕ → List ℕ → Type 0
IsNumbered number tag = IsAddressable tag × (number ≡ tag_number tag)

-- these are tags, and their numbers
abbrev pub AreTagNumbers : List ℕ → List (List ℕ) → Type 0
AreTagNumbers numbers tags = All IsTag tags × (numbers ≡ map tag_number tags)
