-- Facts about how tags begin.
use Rattle.std.proofs.Common.{◌≡◌, ℕ, ◌%◌, ◌<◌, ◌≤◌, List, [], ◌∷◌, ◌++◌, refl, arith, Err, ◌⊎◌, inl, inr}
use Rattle.std.proofs.lemmas.Bool.{cases_lt, cases_eq, cases_order}
use Rattle.tlv_core.specs.TagForm.{IsTag, StartsWithTag, EndsInsideTag}
use Rattle.tlv_core.specs.FrontParts.{IsFrontTag}
use Rattle.tlv_core.specs.declared.fault.Reason.TheVariants.{TagForm}
use Rattle.tlv_core.specs.TagLaws.{neither, form_zero, form_second, form_third, front_none, front_cut_first, front_cut_second}

form_not_a_byte : (a : ℕ) (rest tag x y : List ℕ) → 256 ≤ a → IsTag tag → (a ∷ rest) ++ x ≡ tag ++ y
    → ⊥
form_not_a_byte a rest (b ∷ []) x y big h e = let e1 : a ≡ b = cc in omega arith
form_not_a_byte a rest (b ∷ c ∷ []) x y big h e = let e1 : a ≡ b = cc in omega arith
form_not_a_byte a rest (b ∷ c ∷ d ∷ []) x y big h e = let e1 : a ≡ b = cc in omega arith
form_not_a_byte a rest [] x y big h e = h
form_not_a_byte a rest (b ∷ c ∷ d ∷ f ∷ t) x y big h e = h

form_second_not_a_byte : (a b : ℕ) (rest tag x y : List ℕ) → a % 32 ≡ 31 → 256 ≤ b → IsTag tag
    → (a ∷ b ∷ rest) ++ x ≡ tag ++ y → ⊥
form_second_not_a_byte a b rest (c ∷ []) x y more big h e = let e1 : a ≡ c = cc in omega arith
form_second_not_a_byte a b rest (c ∷ d ∷ []) x y more big h e = let e2 : b ≡ d = cc in omega arith
form_second_not_a_byte a b rest (c ∷ d ∷ f ∷ []) x y more big h e = let e2 : b ≡ d = cc in
    omega arith
form_second_not_a_byte a b rest [] x y more big h e = h
form_second_not_a_byte a b rest (c ∷ d ∷ f ∷ g ∷ t) x y more big h e = h

-- Every list starts with a tag, ends inside one, or does neither.
TagCases : List ℕ → Type 0
TagCases bytes = StartsWithTag bytes ⊎ (EndsInsideTag bytes ⊎ IsFrontTag bytes (Err TagForm))

after_two : (a b : ℕ) (rest : List ℕ) → a < 256 → a % 32 ≡ 31 → 128 < b → b < 256
    → TagCases (a ∷ b ∷ rest)
unfolding TagCases
after_two a b [] byte more low high =
    inr (inl (front_cut_second (a ∷ b ∷ []) (omega arith) byte more low high))
after_two a b (c ∷ rest) byte more low high = elim (cases_lt c 128) [
  | inl small ↦ inl (a ∷ b ∷ c ∷ [], rest, (byte, more, low, high, small), refl)
  | inr big ↦ inr (inr
      (neither (a ∷ b ∷ c ∷ rest) (λ tag x y. form_third a b c rest tag x y more low big)))
]

after_one : (a : ℕ) (rest : List ℕ) → a < 256 → a % 32 ≡ 31 → TagCases (a ∷ rest)
unfolding TagCases
after_one a [] byte more = inr (inl (front_cut_first (a ∷ []) (omega arith) byte more))
after_one a (b ∷ rest) byte more = elim (cases_eq b 0) [
  | inl zero_byte ↦ inr
      (inr (neither (a ∷ b ∷ rest) (λ tag x y. form_second a b rest tag x y more (inl zero_byte))))
  | inr some ↦ elim (cases_order b 128) [
    | inl same ↦ inr (inr
        (neither (a ∷ b ∷ rest) (λ tag x y. form_second a b rest tag x y more (inr same))))
    | inr apart ↦ elim apart [
      | inl below ↦ inl (a ∷ b ∷ [], rest, (byte, more, omega arith, below), refl)
      | inr above ↦ elim (cases_lt b 256) [
        | inl low ↦ after_two a b rest byte more above low
        | inr high ↦ inr (inr
            (neither (a ∷ b ∷ rest) (λ tag x y. form_second_not_a_byte a b rest tag x y more high)))
      ]
    ]
  ]
]

pub tag_cases : (bytes : List ℕ) → StartsWithTag bytes
    ⊎ (EndsInsideTag bytes ⊎ IsFrontTag bytes (Err TagForm))
unfolding TagCases
tag_cases [] = inr (inl (front_none [] (omega arith)))
tag_cases (a ∷ rest) = elim (cases_lt a 256) [
  | inr big ↦ inr (inr (neither (a ∷ rest) (λ tag x y. form_not_a_byte a rest tag x y big)))
  | inl byte ↦ elim (cases_eq a 0) [
    | inl zero_byte ↦ inr (inr (rw zero_byte (neither (0 ∷ rest) (form_zero rest))))
    | inr some ↦ elim (cases_eq (a % 32) 31) [
      | inl more ↦ after_one a rest byte more
      | inr last ↦ inl (a ∷ [], rest, (omega arith, byte, last), refl)
    ]
  ]
]
