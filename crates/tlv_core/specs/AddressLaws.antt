-- The tags that P1-P2 name.
use Rattle.std.proofs.Common.{◌≡◌, ℕ, ◌<◌, ◌≤◌, List, [], ◌∷◌, length, get_or, refl, arith}
use Rattle.tlv_core.specs.TagForm.{IsTag}
use Rattle.tlv_core.specs.Address.{NamesTag, IsAddressable}

pub named_by_one : (tag : List ℕ) → IsTag tag → length tag < 2 → 64 ≤ get_or tag 0 0
    → IsAddressable tag
named_by_one [] h one low = absurd h
named_by_one (a ∷ []) h one low = (0, a, (low, omega arith, h.2, refl, refl))
named_by_one (a ∷ b ∷ rest) h one low = absurd (omega arith)

pub named_by_two : (tag : List ℕ) → IsTag tag → length tag ≡ 2 → 95 ≤ get_or tag 0 0
    → IsAddressable tag
named_by_two [] h two low = absurd h
named_by_two (a ∷ []) h two low = absurd (omega arith)
named_by_two (a ∷ b ∷ []) h two low = (a, b, (low, h.0, h.1, h.2, h.3, refl, refl))
named_by_two (a ∷ b ∷ c ∷ rest) h two low = absurd (omega arith)

pub named_is_tag : (tag : List ℕ) (p1 p2 : ℕ) → NamesTag tag p1 p2 → IsTag tag
named_is_tag [] p1 p2 h = absurd h
named_is_tag (a ∷ []) p1 p2 h = (omega arith, omega arith, h.2)
named_is_tag (a ∷ b ∷ []) p1 p2 h = (h.1, h.2, h.3, h.4)
named_is_tag (a ∷ b ∷ c ∷ rest) p1 p2 h = absurd h
