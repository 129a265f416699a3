-- The front of bytes is a spelled length, a part of one, or neither.
use Rattle.std.proofs.Common.{◌≡◌, ℕ, List, [], ◌∷◌, ◌++◌, length, sym, ap, arith, append_assoc, length-append, append-nil, ◌∙◌}
use Rattle.std.proofs.lemmas.List.{nil_from_length, append_cancel_left}
use Rattle.tlv_core.specs.Length.{SpellsLength, StartsWithLength, EndsInsideLength}

-- No spelling of a length is a prefix of another.
pub sizes_agree : (s t x y : List ℕ) (n m : ℕ) → SpellsLength s n → SpellsLength t m
    → s ++ x ≡ t ++ y → (s ≡ t) × (n ≡ m)
sizes_agree (a ∷ []) (b ∷ []) x y n m hs ht e = let e1 : a ≡ b = cc in (cc, cc)
sizes_agree (a ∷ []) (b ∷ c ∷ []) x y n m hs ht e = let e1 : a ≡ b = cc in absurd (omega arith)
sizes_agree (a ∷ []) (b ∷ c ∷ d ∷ []) x y n m hs ht e = let e1 : a ≡ b = cc in absurd (omega arith)
sizes_agree (a ∷ b ∷ []) (c ∷ []) x y n m hs ht e = let e1 : a ≡ c = cc in absurd (omega arith)
sizes_agree (a ∷ b ∷ []) (c ∷ d ∷ []) x y n m hs ht e = let e1 : a ≡ c = cc in let e2 : b ≡ d =
    cc in (cc, cc)
sizes_agree (a ∷ b ∷ []) (c ∷ d ∷ f ∷ []) x y n m hs ht e = let e1 : a ≡ c = cc in
    absurd (omega arith)
sizes_agree (a ∷ b ∷ c ∷ []) (d ∷ []) x y n m hs ht e = let e1 : a ≡ d = cc in absurd (omega arith)
sizes_agree (a ∷ b ∷ c ∷ []) (d ∷ f ∷ []) x y n m hs ht e = let e1 : a ≡ d = cc in
    absurd (omega arith)
sizes_agree (a ∷ b ∷ c ∷ []) (d ∷ f ∷ g ∷ []) x y n m hs ht e =
    let e1 : a ≡ d = cc in let e2 : b ≡ f = cc in let e3 : c ≡ g = cc in (cc, omega arith)
sizes_agree [] t x y n m hs ht e = absurd hs
sizes_agree (a ∷ b ∷ c ∷ d ∷ s) t x y n m hs ht e = absurd hs
sizes_agree s [] x y n m hs ht e = absurd ht
sizes_agree s (a ∷ b ∷ c ∷ d ∷ t) x y n m hs ht e = absurd ht

-- Bytes that start with a length do not end inside one.
pub length_start_is_not_inside : (bytes : List ℕ) → StartsWithLength bytes → EndsInsideLength bytes
    → ⊥
length_start_is_not_inside bytes (size, rest, n, is_size, e) (whole, m, is_whole, (more, f, some)) =
    let g : size ++ (rest ++ more) ≡ whole ++ [] = sym (append_assoc size rest more)
    ∙ ap (λ x. x ++ more) (sym e) ∙ f ∙ sym (append-nil whole) in
    let h : size ≡ whole = (sizes_agree size whole (rest ++ more) [] n m is_size is_whole g).0 in
    let k : size ++ (rest ++ more) ≡ size ++ [] = g ∙ ap (λ x. x ++ []) (sym h) in
    some (nil_from_length more
    (omega (
      arith,
      length-append rest more,
      ap length (append_cancel_left size (rest ++ more) [] k),
    )))
