-- Facts about the spelling of lengths.
use Rattle.std.proofs.Common.{◌≡◌, ◌≢◌, ℕ, ◌+◌, ◌-◌, ◌*◌, ◌<◌, ◌≤◌, List, [], ◌∷◌, ◌++◌, length, get_or, drop, refl, sym, ap, arith, append-nil, ◌∙◌, ◌⊎◌, inl, inr}
use Rattle.std.proofs.lemmas.List.{get_or-drop, length-drop}
use Rattle.std.proofs.lemmas.Bool.{cases_lt, cases_eq}
use Rattle.tlv_core.specs.Length.{SpellsLength, StartsWithLength, EndsInsideLength}
use Rattle.tlv_core.specs.FrontParts.{IsFrontSpelling, IsSpelledFrom, HasNoFrontLength}
use Rattle.tlv_core.specs.declared.fault.Reason.TheVariants.{LengthForm}

-- Bytes that no spelling agrees with neither start with a length nor end inside one.
AgreesWithNone : List ℕ → Type 0
AgreesWithNone bytes = (size x y : List ℕ) (n : ℕ) → SpellsLength size n → bytes ++ x ≡ size ++ y
    → ⊥

neither : (bytes : List ℕ) → AgreesWithNone bytes → HasNoFrontLength bytes LengthForm
unfolding AgreesWithNone
neither bytes none = (
  λ (size, n, is_size, (more, e, some)). none size more [] n is_size (e ∙ sym (append-nil size)),
  λ (size, rest, n, is_size, e). none size [] rest n is_size (append-nil bytes ∙ e),
)

first_byte : (a : ℕ) (rest : List ℕ) → (128 ≤ a) → a ≢ 129 → a ≢ 130 → AgreesWithNone (a ∷ rest)
unfolding AgreesWithNone
first_byte a rest low one two (b ∷ []) x y n h e = let e1 : a ≡ b = cc in omega arith
first_byte a rest low one two (b ∷ c ∷ []) x y n h e = let e1 : a ≡ b = cc in one (e1 ∙ h.0)
first_byte a rest low one two (b ∷ c ∷ d ∷ []) x y n h e = let e1 : a ≡ b = cc in two (e1 ∙ h.0)
first_byte a rest low one two [] x y n h e = h
first_byte a rest low one two (b ∷ c ∷ d ∷ f ∷ s) x y n h e = h

second_byte : (a b : ℕ) (rest : List ℕ) → (128 ≤ a) → 256 ≤ b → AgreesWithNone (a ∷ b ∷ rest)
unfolding AgreesWithNone
second_byte a b rest low big (p ∷ []) x y n h e = let e1 : a ≡ p = cc in omega arith
second_byte a b rest low big (p ∷ q ∷ []) x y n h e = let e2 : b ≡ q = cc in omega arith
second_byte a b rest low big (p ∷ q ∷ r ∷ []) x y n h e = let e2 : b ≡ q = cc in omega arith
second_byte a b rest low big [] x y n h e = h
second_byte a b rest low big (p ∷ q ∷ r ∷ f ∷ s) x y n h e = h

third_byte : (b c : ℕ) (rest : List ℕ) → 256 ≤ c → AgreesWithNone (130 ∷ b ∷ c ∷ rest)
unfolding AgreesWithNone
third_byte b c rest big (p ∷ []) x y n h e = let e1 : 130 ≡ p = cc in omega arith
third_byte b c rest big (p ∷ q ∷ []) x y n h e = let e1 : 130 ≡ p = cc in omega arith
third_byte b c rest big (p ∷ q ∷ r ∷ []) x y n h e = let e3 : c ≡ r = cc in omega arith
third_byte b c rest big [] x y n h e = h
third_byte b c rest big (p ∷ q ∷ r ∷ f ∷ s) x y n h e = h

inside_nil : EndsInsideLength []
inside_nil = (0 ∷ [], 0, (omega arith, refl), (0 ∷ [], refl, λ e. cc))

inside_81 : EndsInsideLength (129 ∷ [])
inside_81 = (129 ∷ 0 ∷ [], 0, (refl, omega arith, refl), (0 ∷ [], refl, λ e. cc))

inside_82 : EndsInsideLength (130 ∷ [])
inside_82 = (
  130 ∷ 0 ∷ 0 ∷ [],
  0,
  (refl, omega arith, omega arith, refl),
  (0 ∷ 0 ∷ [], refl, λ e. cc),
)

inside_82_of_two : (b : ℕ) → b < 256 → EndsInsideLength (130 ∷ b ∷ [])
inside_82_of_two b byte =
    (130 ∷ b ∷ 0 ∷ [], 256 * b + 0, (refl, byte, omega arith, refl), (0 ∷ [], refl, λ e. cc))

-- Every list starts with a length, ends inside one, or does neither.
LengthCases : List ℕ → Type 0
LengthCases bytes = StartsWithLength bytes
    ⊎ (EndsInsideLength bytes ⊎ HasNoFrontLength bytes LengthForm)

after_82 : (rest : List ℕ) → LengthCases (130 ∷ rest)
unfolding LengthCases
after_82 [] = inr (inl inside_82)
after_82 (b ∷ []) = elim (cases_lt b 256) [
  | inl low ↦ inr (inl (inside_82_of_two b low))
  | inr high ↦ inr (inr (neither (130 ∷ b ∷ []) (second_byte 130 b [] (omega arith) high)))
]
after_82 (b ∷ c ∷ rest) = elim (cases_lt b 256) [
  | inl low ↦ elim (cases_lt c 256) [
    | inl small ↦ inl (130 ∷ b ∷ c ∷ [], rest, 256 * b + c, (refl, low, small, refl), refl)
    | inr big ↦ inr (inr (neither (130 ∷ b ∷ c ∷ rest) (third_byte b c rest big)))
  ]
  | inr high ↦ inr (inr
      (neither (130 ∷ b ∷ c ∷ rest) (second_byte 130 b (c ∷ rest) (omega arith) high)))
]

after_81 : (rest : List ℕ) → LengthCases (129 ∷ rest)
unfolding LengthCases
after_81 [] = inr (inl inside_81)
after_81 (b ∷ rest) = elim (cases_lt b 256) [
  | inl low ↦ inl (129 ∷ b ∷ [], rest, b, (refl, low, refl), refl)
  | inr high ↦ inr (inr (neither (129 ∷ b ∷ rest) (second_byte 129 b rest (omega arith) high)))
]

pub length_cases : (bytes : List ℕ) → StartsWithLength bytes
    ⊎ (EndsInsideLength bytes ⊎ HasNoFrontLength bytes LengthForm)
unfolding LengthCases
length_cases [] = inr (inl inside_nil)
length_cases (a ∷ rest) = elim (cases_lt a 128) [
  | inl short ↦ inl (a ∷ [], rest, a, (short, refl), refl)
  | inr long ↦ elim (cases_eq a 129) [
    | inl one ↦ rw one (after_81 rest)
    | inr not_one ↦ elim (cases_eq a 130) [
      | inl two ↦ rw two (after_82 rest)
      | inr not_two ↦ inr (inr (neither (a ∷ rest) (first_byte a rest long not_one not_two)))
    ]
  ]
]

-- One lemma for each branch of `length_at`, by the bytes that it looks at.
pub front_none : (bytes : List ℕ) → length bytes < 1 → EndsInsideLength bytes
front_none [] short = inside_nil
front_none (a ∷ rest) short = absurd (omega arith)

pub front_82 : (bytes : List ℕ) → 2 < length bytes → get_or bytes 0 0 ≡ 130 → get_or bytes 1 0 < 256
    → get_or bytes 2 0 < 256
    → IsFrontSpelling bytes 3 (256 * get_or bytes 1 0 + get_or bytes 2 0)
front_82 [] some first second third = absurd (omega arith)
front_82 (a ∷ []) some first second third = absurd (omega arith)
front_82 (a ∷ b ∷ []) some first second third = absurd (omega arith)
front_82 (a ∷ b ∷ c ∷ rest) some first second third =
    (a ∷ b ∷ c ∷ [], rest, refl, refl, (first, second, third, refl))

pub front_cut_first : (bytes : List ℕ) → length bytes ≡ 1 → (get_or bytes 0 0 ≡ 129)
    ⊎ (get_or bytes 0 0 ≡ 130) → EndsInsideLength bytes
front_cut_first [] one first = absurd (omega arith)
front_cut_first (a ∷ []) one first = elim first [ inl e ↦ rw e inside_81 | inr e ↦ rw e inside_82 ]
front_cut_first (a ∷ b ∷ rest) one first = absurd (omega arith)

pub front_cut_second : (bytes : List ℕ) → length bytes ≡ 2 → get_or bytes 0 0 ≡ 130
    → get_or bytes 1 0 < 256 → EndsInsideLength bytes
front_cut_second [] two first second = absurd (omega arith)
front_cut_second (a ∷ []) two first second = absurd (omega arith)
front_cut_second (a ∷ b ∷ []) two first second = rw first (inside_82_of_two b second)
front_cut_second (a ∷ b ∷ c ∷ rest) two first second = absurd (omega arith)

-- The same, from an index of the bytes.
first_there : (bytes : List ℕ) (start k : ℕ)
    → get_or (drop start bytes) k 0 ≡ get_or bytes (start + k) 0
first_there bytes start k = get_or-drop start bytes k 0

pub cut_at_length : (bytes : List ℕ) (start : ℕ) → start ≡ length bytes
    → EndsInsideLength (drop start bytes)
cut_at_length bytes start none =
    front_none (drop start bytes) (omega (arith, length-drop start bytes))

pub cut_in_81 : (bytes : List ℕ) (start : ℕ) → length bytes - start ≢ 0 → length bytes - start < 2
    → get_or bytes start 0 ≡ 129
    → EndsInsideLength (drop start bytes)
cut_in_81 bytes start some few first =
    let same : start + 0 ≡ start = omega arith in
    front_cut_first (drop start bytes) (omega (arith, length-drop start bytes))
    (inl (first_there bytes start 0 ∙ ap (λ x. get_or bytes x 0) same ∙ first))

pub cut_in_82 : (bytes : List ℕ) (start : ℕ) → length bytes - start ≢ 0 → length bytes - start < 3
    → get_or bytes start 0 ≡ 130
    → get_or bytes (start + 1) 0 < 256 → EndsInsideLength (drop start bytes)
cut_in_82 bytes start some few first byte =
    let same : start + 0 ≡ start = omega arith in
    let there : get_or (drop start bytes) 0 0 ≡ 130 = first_there bytes start 0
    ∙ ap (λ x. get_or bytes x 0) same ∙ first in
    elim (cases_eq (length bytes - start) 1) [
      | inl one ↦ front_cut_first (drop start bytes) (omega (arith, length-drop start bytes))
          (inr there)
      | inr more ↦ front_cut_second (drop start bytes) (omega (arith, length-drop start bytes))
          there (omega (arith, first_there bytes start 1))
    ]

pub spelled_by_82 : (bytes : List ℕ) (start : ℕ) → 3 ≤ length bytes - start
    → get_or bytes start 0 ≡ 130
    → get_or bytes (start + 1) 0 < 256 → get_or bytes (start + 2) 0 < 256
    → IsSpelledFrom bytes start (start + 3)
    (256 * get_or bytes (start + 1) 0 + get_or bytes (start + 2) 0)
spelled_by_82 bytes start some first second third =
    let same : start + 0 ≡ start = omega arith in
    let there : get_or (drop start bytes) 0 0 ≡ 130 = first_there bytes start 0
    ∙ ap (λ x. get_or bytes x 0) same ∙ first in
    let e1 = first_there bytes start 1 in
    let e2 = first_there bytes start 2 in (
      3,
      refl,
      rw (← e1, ← e2)
          (front_82 (drop start bytes) (omega (arith, length-drop start bytes)) there (omega arith)
          (omega arith)),
    )
