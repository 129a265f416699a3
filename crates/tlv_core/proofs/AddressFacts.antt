-- Facts about the addresses of tags.
use Rattle.std.proofs.Common.{◌≡◌, ℕ, List, [], ◌∷◌, sym, ap, arith, ◌∙◌}
use Rattle.tlv_core.specs.Address.{NamesTag}

pub addresses_agree : (tag : List ℕ) (p1 p2 q1 q2 : ℕ) → NamesTag tag p1 p2 → NamesTag tag q1 q2
    → (p1 ≡ q1) × (p2 ≡ q2)
addresses_agree [] p1 p2 q1 q2 h g = absurd h
addresses_agree (a ∷ []) p1 p2 q1 q2 h g = (h.3 ∙ sym g.3, h.4 ∙ sym g.4)
addresses_agree (a ∷ b ∷ []) p1 p2 q1 q2 h g = (h.5 ∙ sym g.5, h.6 ∙ sym g.6)
addresses_agree (a ∷ b ∷ c ∷ rest) p1 p2 q1 q2 h g = absurd h

pub named_tags_agree : (tag other : List ℕ) (p1 p2 : ℕ) → NamesTag tag p1 p2 → NamesTag other p1 p2
    → tag ≡ other
named_tags_agree (a ∷ []) (b ∷ []) p1 p2 h g = ap (λ x. x ∷ []) (sym h.4 ∙ g.4)
named_tags_agree (a ∷ []) (b ∷ c ∷ []) p1 p2 h g = absurd (omega arith)
named_tags_agree (a ∷ b ∷ []) (c ∷ []) p1 p2 h g = absurd (omega arith)
named_tags_agree (a ∷ b ∷ []) (c ∷ d ∷ []) p1 p2 h g = let first : a ≡ c = sym h.5 ∙ g.5 in
    let second : b ≡ d = sym h.6 ∙ g.6 in cc
named_tags_agree [] other p1 p2 h g = absurd h
named_tags_agree (a ∷ b ∷ c ∷ rest) other p1 p2 h g = absurd h
named_tags_agree tag [] p1 p2 h g = absurd g
named_tags_agree tag (a ∷ b ∷ c ∷ rest) p1 p2 h g = absurd g
