-- The shortest spelling of a length spells it, and no other is shorter.
use Rattle.std.proofs.Common.{ℕ, ◌/◌, ◌%◌, ◌<◌, ◌≤◌, List, [], ◌∷◌, length, refl, ltb, arith}
use Rattle.std.proofs.lemmas.Bool.{cond_both, ltb-true}
use Rattle.std.proofs.lemmas.Bool.{ltb-false}
use Rattle.tlv_core.specs.Length.{SpellsLength, shortest}

-- a fact of each of the three forms is a fact of the shortest spelling
shortest_cases : (n : ℕ) (P : List ℕ → Type 0) → (n < 0x80 → P (n ∷ []))
    → (0x80 ≤ n → n < 0x100 → P (0x81 ∷ n ∷ []))
    → (0x100 ≤ n → P (0x82 ∷ n / 256 ∷ n % 256 ∷ [])) → P (shortest n)
shortest_cases n P one two three =
    cond_both (ltb n 0x80) _ _ P (λ h. one (ltb-true n 0x80 h))
    (λ h. cond_both (ltb n 0x100) _ _ P (λ k. two (ltb-false n 0x80 h) (ltb-true n 0x100 k))
    (λ k. three (ltb-false n 0x100 k)))

pub shortest_spells : (n : ℕ) → n ≤ 65535 → SpellsLength (shortest n) n
shortest_spells n h = shortest_cases n (λ s. SpellsLength s n) (λ a. (a, refl))
    (λ a b. (refl, b, refl)) (λ a. (refl, omega arith, omega arith, omega arith))

pub shortest_below : (s : List ℕ) (m n : ℕ) → m ≤ n → SpellsLength s n → length (shortest m)
    ≤ length s
shortest_below [] m n h k = absurd k
shortest_below (a ∷ []) m n h k = shortest_cases m (λ x. length x ≤ 1) (λ p. omega arith)
    (λ p q. absurd (omega arith)) (λ p. absurd (omega arith))
shortest_below (a ∷ b ∷ []) m n h k = shortest_cases m (λ x. length x ≤ 2) (λ p. omega arith)
    (λ p q. omega arith) (λ p. absurd (omega arith))
shortest_below (a ∷ b ∷ c ∷ []) m n h k = shortest_cases m (λ x. length x ≤ 3) (λ p. omega arith)
    (λ p q. omega arith) (λ p. omega arith)
shortest_below (a ∷ b ∷ c ∷ d ∷ s) m n h k = absurd k

pub spelled_below : (s : List ℕ) (n : ℕ) → SpellsLength s n → n ≤ 65535
spelled_below [] n k = absurd k
spelled_below (a ∷ []) n k = omega arith
spelled_below (a ∷ b ∷ []) n k = omega arith
spelled_below (a ∷ b ∷ c ∷ []) n k = omega arith
spelled_below (a ∷ b ∷ c ∷ d ∷ s) n k = absurd k
