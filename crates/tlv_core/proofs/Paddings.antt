-- The padding at the front of bytes.
use Rattle.std.proofs.Common.{◌≡◌, ℕ, ◌<◌, List, [], ◌∷◌, ◌++◌, refl, arith}
use Rattle.std.specs.List.{All}
use Rattle.std.proofs.lemmas.List.Elements.{All-head, All-tail}
use Rattle.tlv_core.specs.TagForm.{IsTag}

-- the first byte of a tag is not padding
pub tag_front : (t : List ℕ) → IsTag t → (a : ℕ) × (more : List ℕ) × (t ≡ a ∷ more) × (0 < a)
tag_front [] h = absurd h
tag_front (a ∷ []) h = (a, [], refl, omega arith)
tag_front (a ∷ b ∷ []) h = (a, b ∷ [], refl, omega arith)
tag_front (a ∷ b ∷ c ∷ []) h = (a, b ∷ c ∷ [], refl, omega arith)
tag_front (a ∷ b ∷ c ∷ d ∷ t) h = absurd h

-- two paddings before a byte other than 00 are equal
pub one_padding : (p q r s : List ℕ) (a b : ℕ) → All (λ x. x ≡ 0) p → All (λ x. x ≡ 0) q → 0 < a → 0
    < b
    → p ++ a ∷ r ≡ q ++ b ∷ s → (p ≡ q) × (a ∷ r ≡ b ∷ s)
one_padding [] [] r s a b hp hq ha hb e = (refl, e)
one_padding [] (y ∷ q) r s a b hp hq ha hb e =
    let z : y ≡ 0 = All-head (λ x. x ≡ 0) y q hq in let same : a ≡ y = cc in absurd (omega arith)
one_padding (x ∷ p) [] r s a b hp hq ha hb e =
    let z : x ≡ 0 = All-head (λ y. y ≡ 0) x p hp in let same : x ≡ b = cc in absurd (omega arith)
one_padding (x ∷ p) (y ∷ q) r s a b hp hq ha hb e =
    let same : (p ≡ q) × (a ∷ r ≡ b ∷ s) =
    one_padding p q r s a b (All-tail (λ x. x ≡ 0) x p hp) (All-tail (λ x. x ≡ 0) y q hq) ha hb
    cc in
    let first : x ≡ y = cc in (cc, same.1)

-- nothing but padding contains no byte other than 00
pub not_in_padding : (p r : List ℕ) (a : ℕ) → 0 < a → All (λ x. x ≡ 0) (p ++ a ∷ r) → ⊥
not_in_padding [] r a h k = let z : a ≡ 0 = All-head (λ x. x ≡ 0) a r k in omega arith
not_in_padding (x ∷ p) r a h k = not_in_padding p r a h (All-tail (λ y. y ≡ 0) x (p ++ a ∷ r) k)
