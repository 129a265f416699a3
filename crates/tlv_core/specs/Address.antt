-- Addresses of tags (ISO/IEC 7816-4, GET DATA and PUT DATA).
use Rattle.std.specs.Prelude.{◌≡◌, ◌≢◌, ℕ, ◌%◌, ◌<◌, ◌≤◌, List, [], ◌∷◌}

-- The tags that P1-P2 can name, with these P1-P2 (which tags: profile). A tag of one byte is in P2,
-- one of two bytes in P1-P2.
abbrev pub NamesTag : List ℕ → ℕ → ℕ → Type 0
NamesTag (a ∷ []) p1 p2 = (0x40 ≤ a) × (a ≤ 0xFE) × (a % 32 ≢ 31) × (p1 ≡ 0) × (p2 ≡ a)
NamesTag (a ∷ b ∷ []) p1 p2 = (0x5F ≤ a) × (a < 256) × (a % 32 ≡ 31) × (0 < b) × (b < 0x80)
    × (p1 ≡ a) × (p2 ≡ b)
NamesTag _ p1 p2 = ⊥

-- some P1-P2 name the tag
abbrev pub IsAddressable : List ℕ → Type 0
IsAddressable tag = (p1 p2 : ℕ) × NamesTag tag p1 p2
