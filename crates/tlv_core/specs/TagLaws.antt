-- The front of bytes is a tag, a part of one, or neither.
use Rattle.std.proofs.Common.{◌≡◌, ◌≢◌, ℕ, ◌%◌, ◌<◌, ◌≤◌, List, [], ◌∷◌, ◌++◌, length, get_or, refl, sym, ap, arith, append_assoc, length-append, append-nil, ◌∙◌, Ok, Err, ◌⊎◌, inl, inr}
use Rattle.std.proofs.lemmas.List.{nil_from_length, append_cancel_left}
use Rattle.tlv_core.specs.TagForm.{IsTag, StartsWithTag, EndsInsideTag}
use Rattle.tlv_core.specs.FrontParts.{IsFrontTag, IsFrontTagSize}
use Rattle.tlv_core.specs.declared.fault.Reason.TheVariants.{TagForm}

-- No tag is a prefix of another.
pub tags_agree : (s t x y : List ℕ) → IsTag s → IsTag t → s ++ x ≡ t ++ y → s ≡ t
tags_agree (a ∷ []) (b ∷ []) x y hs ht e = let e1 : a ≡ b = cc in cc
tags_agree (a ∷ []) (b ∷ c ∷ []) x y hs ht e = let e1 : a ≡ b = cc in
    absurd (hs.2 (let r : a % 32 ≡ 31 = rw e1 ht.1 in r))
tags_agree (a ∷ []) (b ∷ c ∷ d ∷ []) x y hs ht e = let e1 : a ≡ b = cc in
    absurd (hs.2 (let r : a % 32 ≡ 31 = rw e1 ht.1 in r))
tags_agree (a ∷ b ∷ []) (c ∷ []) x y hs ht e = let e1 : c ≡ a = cc in
    absurd (ht.2 (let r : c % 32 ≡ 31 = rw e1 hs.1 in r))
tags_agree (a ∷ b ∷ []) (c ∷ d ∷ []) x y hs ht e = let e1 : a ≡ c = cc in let e2 : b ≡ d = cc in cc
tags_agree (a ∷ b ∷ []) (c ∷ d ∷ f ∷ []) x y hs ht e = let e2 : b ≡ d = cc in absurd (omega arith)
tags_agree (a ∷ b ∷ c ∷ []) (d ∷ []) x y hs ht e = let e1 : d ≡ a = cc in
    absurd (ht.2 (let r : d % 32 ≡ 31 = rw e1 hs.1 in r))
tags_agree (a ∷ b ∷ c ∷ []) (d ∷ f ∷ []) x y hs ht e = let e2 : b ≡ f = cc in absurd (omega arith)
tags_agree (a ∷ b ∷ c ∷ []) (d ∷ f ∷ g ∷ []) x y hs ht e = let e1 : a ≡ d = cc in let e2 : b ≡ f =
    cc in let e3 : c ≡ g = cc in cc
tags_agree [] t x y hs ht e = absurd hs
tags_agree (a ∷ b ∷ c ∷ d ∷ s) t x y hs ht e = absurd hs
tags_agree s [] x y hs ht e = absurd ht
tags_agree s (a ∷ b ∷ c ∷ d ∷ t) x y hs ht e = absurd ht

-- Bytes that start with a tag do not end inside one.
pub start_is_not_inside : (bytes : List ℕ) → StartsWithTag bytes → EndsInsideTag bytes → ⊥
start_is_not_inside bytes (tag, rest, is_tag, e) (whole, is_whole, (more, f, some)) =
    let g : tag ++ (rest ++ more) ≡ whole ++ [] = sym (append_assoc tag rest more)
    ∙ ap (λ x. x ++ more) (sym e) ∙ f ∙ sym (append-nil whole) in
    let h : tag ≡ whole = tags_agree tag whole (rest ++ more) [] is_tag is_whole g in
    let k : tag ++ (rest ++ more) ≡ tag ++ [] = g ∙ ap (λ x. x ++ []) (sym h) in
    some (nil_from_length more
    (omega (
      arith,
      length-append rest more,
      ap length (append_cancel_left tag (rest ++ more) [] k),
    )))

-- Bytes that no tag agrees with neither start with a tag nor end inside one.
pub neither : (bytes : List ℕ) → ((tag x y : List ℕ) → IsTag tag → bytes ++ x ≡ tag ++ y → ⊥)
    → IsFrontTag bytes (Err TagForm)
neither bytes none = (
  λ (tag, is_tag, (more, e, some)). none tag more [] is_tag (e ∙ sym (append-nil tag)),
  λ (tag, rest, is_tag, e). none tag [] rest is_tag (append-nil bytes ∙ e),
)

pub form_zero : (rest tag x y : List ℕ) → IsTag tag → (0 ∷ rest) ++ x ≡ tag ++ y → ⊥
form_zero rest (a ∷ []) x y h e = let e1 : 0 ≡ a = cc in omega arith
form_zero rest (a ∷ b ∷ []) x y h e = let e1 : 0 ≡ a = cc in omega arith
form_zero rest (a ∷ b ∷ c ∷ []) x y h e = let e1 : 0 ≡ a = cc in omega arith
form_zero rest [] x y h e = h
form_zero rest (a ∷ b ∷ c ∷ d ∷ t) x y h e = h

pub form_second : (f s : ℕ) (rest tag x y : List ℕ) → f % 32 ≡ 31 → (s ≡ 0) ⊎ (s ≡ 128) → IsTag tag
    → (f ∷ s ∷ rest) ++ x ≡ tag ++ y → ⊥
form_second f s rest (a ∷ []) x y first second h e = let e1 : f ≡ a = cc in omega arith
form_second f s rest (a ∷ b ∷ []) x y first second h e = let e2 : s ≡ b = cc in
    elim second [ inl z ↦ omega arith | inr z ↦ omega arith ]
form_second f s rest (a ∷ b ∷ c ∷ []) x y first second h e = let e2 : s ≡ b = cc in
    elim second [ inl z ↦ omega arith | inr z ↦ omega arith ]
form_second f s rest [] x y first second h e = h
form_second f s rest (a ∷ b ∷ c ∷ d ∷ t) x y first second h e = h

pub form_third : (f s third : ℕ) (rest tag x y : List ℕ) → f % 32 ≡ 31 → 128 < s → 128 ≤ third
    → IsTag tag → (f ∷ s ∷ third ∷ rest) ++ x ≡ tag ++ y → ⊥
form_third f s third rest (a ∷ []) x y first second past h e = let e1 : f ≡ a = cc in omega arith
form_third f s third rest (a ∷ b ∷ []) x y first second past h e = let e2 : s ≡ b = cc in
    omega arith
form_third f s third rest (a ∷ b ∷ c ∷ []) x y first second past h e = let e3 : third ≡ c = cc in
    omega arith
form_third f s third rest [] x y first second past h e = h
form_third f s third rest (a ∷ b ∷ c ∷ d ∷ t) x y first second past h e = h

-- One lemma for each branch of `tag_size`, by the bytes that it looks at.
pub front_none : (bytes : List ℕ) → length bytes < 1 → EndsInsideTag bytes
front_none [] short = (1 ∷ [], (omega arith, omega arith, omega arith), (1 ∷ [], refl, λ e. cc))
front_none (a ∷ rest) short = absurd (omega arith)

pub front_zero : (bytes : List ℕ) → 0 < length bytes → get_or bytes 0 0 ≡ 0
    → IsFrontTag bytes (Err TagForm)
front_zero [] some zero = absurd (omega arith)
front_zero (a ∷ rest) some zero = rw zero (neither (0 ∷ rest) (form_zero rest))

pub front_one : (bytes : List ℕ) → 0 < length bytes → get_or bytes 0 0 < 256 → get_or bytes 0 0 ≢ 0
    → get_or bytes 0 0 % 32 ≢ 31
    → IsFrontTagSize bytes (Ok 1)
front_one [] some byte first last = absurd (omega arith)
front_one (a ∷ rest) some byte first last =
    (a ∷ [], ((omega arith, byte, last), (rest, refl)), refl)

pub front_cut_first : (bytes : List ℕ) → length bytes ≡ 1 → get_or bytes 0 0 < 256
    → get_or bytes 0 0 % 32 ≡ 31 → EndsInsideTag bytes
front_cut_first [] one byte more = absurd (omega arith)
front_cut_first (a ∷ []) one byte more =
    (a ∷ 1 ∷ [], (byte, more, omega arith, omega arith), (1 ∷ [], refl, λ e. cc))
front_cut_first (a ∷ b ∷ rest) one byte more = absurd (omega arith)

pub front_two : (bytes : List ℕ) → 1 < length bytes → get_or bytes 0 0 < 256
    → get_or bytes 0 0 % 32 ≡ 31
    → 0 < get_or bytes 1 0 → get_or bytes 1 0 < 128 → IsFrontTagSize bytes (Ok 2)
front_two [] some byte more low high = absurd (omega arith)
front_two (a ∷ []) some byte more low high = absurd (omega arith)
front_two (a ∷ b ∷ rest) some byte more low high =
    (a ∷ b ∷ [], ((byte, more, low, high), (rest, refl)), refl)

pub front_second : (bytes : List ℕ) → 1 < length bytes → get_or bytes 0 0 % 32 ≡ 31
    → (get_or bytes 1 0 ≡ 0) ⊎ (get_or bytes 1 0 ≡ 128) → IsFrontTag bytes (Err TagForm)
front_second [] some more second = absurd (omega arith)
front_second (a ∷ []) some more second = absurd (omega arith)
front_second (a ∷ b ∷ rest) some more second =
    neither (a ∷ b ∷ rest) (λ tag x y. form_second a b rest tag x y more second)

pub front_cut_second : (bytes : List ℕ) → length bytes ≡ 2 → get_or bytes 0 0 < 256
    → get_or bytes 0 0 % 32 ≡ 31
    → 128 < get_or bytes 1 0 → get_or bytes 1 0 < 256 → EndsInsideTag bytes
front_cut_second [] two byte more low high = absurd (omega arith)
front_cut_second (a ∷ []) two byte more low high = absurd (omega arith)
front_cut_second (a ∷ b ∷ []) two byte more low high =
    (a ∷ b ∷ 0 ∷ [], (byte, more, low, high, omega arith), (0 ∷ [], refl, λ e. cc))
front_cut_second (a ∷ b ∷ c ∷ rest) two byte more low high = absurd (omega arith)

pub front_three : (bytes : List ℕ) → 2 < length bytes → get_or bytes 0 0 < 256
    → get_or bytes 0 0 % 32 ≡ 31
    → 128 < get_or bytes 1 0 → get_or bytes 1 0 < 256 → get_or bytes 2 0 < 128
    → IsFrontTagSize bytes (Ok 3)
front_three [] some byte more low high third = absurd (omega arith)
front_three (a ∷ []) some byte more low high third = absurd (omega arith)
front_three (a ∷ b ∷ []) some byte more low high third = absurd (omega arith)
front_three (a ∷ b ∷ c ∷ rest) some byte more low high third =
    (a ∷ b ∷ c ∷ [], ((byte, more, low, high, third), (rest, refl)), refl)

pub front_third : (bytes : List ℕ) → 2 < length bytes → get_or bytes 0 0 % 32 ≡ 31
    → 128 < get_or bytes 1 0 → 128 ≤ get_or bytes 2 0 → IsFrontTag bytes (Err TagForm)
front_third [] some more second third = absurd (omega arith)
front_third (a ∷ []) some more second third = absurd (omega arith)
front_third (a ∷ b ∷ []) some more second third = absurd (omega arith)
front_third (a ∷ b ∷ c ∷ rest) some more second third =
    neither (a ∷ b ∷ c ∷ rest) (λ tag x y. form_third a b c rest tag x y more second third)
