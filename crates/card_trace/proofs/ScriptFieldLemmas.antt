-- Fields: a text has at most one meaning, and some texts have none.
use Rattle.std.proofs.Common.{◌≡◌, ◌≢◌, ℕ, zero, suc, ◌+◌, ◌*◌, ◌<◌, ◌==◌, List, [], ◌∷◌, ◌++◌, length, take, drop, get_or, map, replicate, Bool, true, false, Option, Some, None, Result, Ok, Err, refl, sym, ap, subst, ◌∙◌, inl, inr, arith, codes, ◌⊎◌}
use Rattle.std.specs.Prelude.{IsSome, IfSome, IfOk, ◌↔◌, MatchOption}
use Rattle.std.specs.Result.{result_ok}
use Rattle.std.specs.Str.{bytes_eq}
use Rattle.std.proofs.lemmas.Slice.Eq.{bytes_eq-Decides}
use Rattle.std.proofs.lemmas.Bool.{lt-ltb, eqb-true}
use Rattle.std.proofs.lemmas.List.Sums.{split_at_first}
use Rattle.std.specs.Str.{IsAscii, IsUtf8}
use Rattle.std.specs.Str.Parse.{AllDigits}
use Rattle.std.specs.List.{position}
use Rattle.std.proofs.lemmas.Str.{IsUtf8-from_ascii}
use Rattle.hex.specs.Hex.{decode_sized, is_hex_digit}
use Rattle.hex.proofs.HexLemmas.{decode_of-same, decode_of-ok, decode_sized-twice}
use Rattle.std.proofs.Common.{append-nil, append_assoc, length-append, true≢false, lit<, MatchResult}
use Rattle.std.specs.List.{position_or_len}
use Rattle.std.proofs.Math.Seq.{take-append_seam, drop-append-add}
use Rattle.std.proofs.lemmas.Bool.{ne_eqb}
use Rattle.std.proofs.lemmas.Str.Parse.{digit_from_value}
use Rattle.std.proofs.lemmas.List.Quantifiers.{position-Some}
use Rattle.tlv_core.specs.TagForm.{StartsWithTag}
use Rattle.tlv_core.specs.Address.{IsAddressable}
use Rattle.tlv_core.specs.AddressLaws.{named_is_tag}
use Rattle.t0_core.specs.declared.plan.Step.{Step}
use Rattle.t0_core.specs.declared.plan.Step.TheVariants.{Null, One, All}
use Rattle.card_trace.proofs.ScriptWordLemmas.{first_place, no_place}
use Rattle.card_trace.specs.ScriptFields.{IsHexText, IsNumberText, IsRepeatedText, IsValueText, no_bytes, plain, repeated, letter_of, IsStepsText}

-- HEX spells one list of bytes
pub same_bytes : (text a b : List ℕ) → IsHexText text a → IsHexText text b → a ≡ b
same_bytes text a b h g = decode_of-same text a b h.digits g.digits

-- if nothing follows the tag, the bytes are the tag
pub whole_tag : (bytes tag rest : List ℕ) → bytes ≡ tag ++ rest → length bytes ≡ length tag → tag
    ≡ bytes
whole_tag bytes tag [] e len = sym (e ∙ append-nil tag)
whole_tag bytes tag (r ∷ rest) e len =
    absurd (omega (arith, len, ap (λ x. length x) e, length-append tag (r ∷ rest)))

pub named_starts : (bytes : List ℕ) → IsAddressable bytes → StartsWithTag bytes
named_starts bytes named =
    (bytes, [], named_is_tag bytes named.0 named.1 named.2, sym (append-nil bytes))

digits_ascii : (bs : List ℕ) → AllDigits 10 bs → IsAscii bs
digits_ascii [] h i = lit< tt
digits_ascii (c ∷ cs) h zero = omega (arith, (digit_from_value c h.0).1)
digits_ascii (c ∷ cs) h (suc i) = digits_ascii cs h.1 i

pub number_is_utf8 : (text : List ℕ) (n : ℕ) → IsNumberText text n → IsUtf8 text
number_is_utf8 text n h = IsUtf8-from_ascii text (digits_ascii text h.is_numeral.1)

abbrev is_star : ℕ → Bool
is_star other = other == 0x2A

not_star : (c : ℕ) → is_hex_digit c ≡ true → c ≢ 0x2A
not_star c digit e = true≢false (sym digit ∙ ap is_hex_digit e)

-- HEX has no star
starless : (text bytes : List ℕ) → IsHexText text bytes → (k : ℕ) → k < length text
    → is_star (get_or text k 0) ≡ false
starless text bytes h k lt =
    ne_eqb (get_or text k 0) 0x2A
    (not_star (get_or text k 0) ((decode_of-ok text bytes h.digits).1 k 0 lt))

pub hex_has_no_star : (text bytes : List ℕ) (i : ℕ) → IsHexText text bytes → position is_star text
    ≡ Some i → ⊥
hex_has_no_star text bytes i h found =
    let at = position-Some is_star text i 0 found in
    true≢false (sym at.1 ∙ starless text bytes h i at.0)

star_after : (digits times : List ℕ)
    → ((k : ℕ) → k < length digits → is_star (get_or digits k 0) ≡ false)
    → position_or_len is_star (digits ++ 0x2A ∷ times) ≡ length digits
star_after [] times none = refl
star_after (d ∷ digits) times none =
    rw (none 0 (omega arith))
    (omega (arith, star_after digits times (λ k lt. none (suc k) (omega (arith, lt)))))

starred : (text digits times : List ℕ) → text ≡ digits ++ codes "*" ++ times → text ≡ digits ++ 0x2A
    ∷ times
starred text digits times e = e ∙ append_assoc digits (0x2A ∷ []) times

-- a text with a star is cut at it
pub cut_at_star : (text digits times bytes : List ℕ) (i : ℕ) → IsHexText digits bytes
    → text ≡ digits ++ codes "*" ++ times → position is_star text ≡ Some i
    → (take i text ≡ digits) × (drop (i + 1) text ≡ times)
cut_at_star text digits times bytes i h e found =
    let shape = starred text digits times e in
    let at = first_place is_star text i found in
    let at_length = star_after digits times (starless digits bytes h) in
    let here : i ≡ length digits = sym at.0 ∙ ap (position_or_len is_star) shape ∙ at_length in (
      rw (here, shape) (take-append_seam digits (0x2A ∷ times)),
      rw (here, shape)
          (drop-append-add digits (0x2A ∷ times) 1),
    )

pub has_star : (text digits times bytes : List ℕ) → IsHexText digits bytes
    → text ≡ digits ++ codes "*" ++ times → position is_star text ≡ None → ⊥
has_star text digits times bytes h e missing =
    let shape = starred text digits times e in
    let at_length = star_after digits times (starless digits bytes h) in
    omega (
      arith,
      no_place is_star text missing,
      ap (position_or_len is_star) shape,
      at_length,
      ap (λ x. length x) shape,
      length-append digits (0x2A ∷ times),
    )

-- each letter of steps is one of three
pub is_letter : (steps : List Step) (k : ℕ) → k < length (map letter_of steps)
    → (get_or (map letter_of steps) k 0 ≡ 0x6E)
    ⊎ ((get_or (map letter_of steps) k 0 ≡ 0x6F) ⊎ (get_or (map letter_of steps) k 0 ≡ 0x61))
is_letter [] k lt = absurd (omega arith)
is_letter (Null ∷ steps) zero lt = inl refl
is_letter (One ∷ steps) zero lt = inr (inl refl)
is_letter (All ∷ steps) zero lt = inr (inr refl)
is_letter (step ∷ steps) (suc k) lt = is_letter steps k (omega (arith, lt))

-- if `ok()` returned a value, the result had it
pub was_ok : {T E : Type 0} (r : Result T E) (x : T) (P : T → Type 0) → Some x ≡ result_ok r
    → IfOk r P → P x
was_ok (Ok y) x P was h = let same : y ≡ x = cc in subst P same h
was_ok (Err e) x P was h = cc was

-- if `ok()` returned no value, the result was an error
pub was_err : {T E : Type 0} (r : Result T E) (P : T → Type 0) (Q : E → Type 0) (R : Type 0) → None
    ≡ result_ok r
    → ((e : E) → Q e → R) → MatchResult r P Q → R
was_err (Ok x) P Q R was from h = cc was
was_err (Err e) P Q R was from h = from e h

-- the tag is all of the bytes and can be addressed, or the bytes are no such tag
pub named_tag : (r : Option (List ℕ)) (tag bytes : List ℕ) → tag ≡ bytes
    → (IsSome r ↔ IsAddressable tag)
    → IfSome r (λ t. t ≡ tag)
    → MatchOption r (IsAddressable bytes → ⊥) (λ t. (t ≡ bytes) × IsAddressable bytes)
named_tag None tag bytes e named same = λ is_named.
    let P : List ℕ → Type 0 = λ x. IsAddressable x in
    true≢false (sym (named.1 (subst P (sym e) is_named)))
named_tag (Some t) tag bytes e named same =
    let P : List ℕ → Type 0 = λ x. IsAddressable x in
    (same ∙ e, subst P e (named.0 refl))

-- a text with another letter is not STEPS
pub no_steps : (text : List ℕ) (k : ℕ) → k < length text → get_or text k 0 ≢ 0x6E
    → get_or text k 0 ≢ 0x6F
    → get_or text k 0 ≢ 0x61 → text ≢ codes "-" → (steps : List Step) → IsStepsText text steps → ⊥
no_steps text k lt null one all dash steps (inl h) = dash h.0
no_steps text k lt null one all dash steps (inr e) = letters (is_letter steps k (subst below e lt))
  where
    below : List ℕ → Type 0
    below xs = k < length xs

    at : get_or text k 0 ≡ get_or (map letter_of steps) k 0
    at = ap (λ xs. get_or xs k 0) e

    letters : (get_or (map letter_of steps) k 0 ≡ 0x6E)
        ⊎ ((get_or (map letter_of steps) k 0 ≡ 0x6F) ⊎ (get_or (map letter_of steps) k 0 ≡ 0x61))
        → ⊥
    letters (inl is) = null (at ∙ is)
    letters (inr (inl is)) = one (at ∙ is)
    letters (inr (inr is)) = all (at ∙ is)

-- the two digits of a byte decode into one byte
pub sized_of : (text : List ℕ) (byte : ℕ) → IsHexText text (byte ∷ []) → decode_sized text 1
    ≡ Ok (byte ∷ [])
sized_of text byte h =
    let twice : length text ≡ 2 * 1 = (decode_of-ok text (byte ∷ []) h.digits).2 in
    decode_sized-twice text 1 twice ∙ h.digits

-- the test says that the text is not `-`
pub differs : (text other : List ℕ) → other ≡ codes "-" → bytes_eq text other ≡ false
    → text ≢ codes "-"
differs text other is e same =
    true≢false (sym ((bytes_eq-Decides text other).1 (same ∙ sym is)) ∙ e)

-- a text without a star that is neither `-` nor HEX is not VALUE
pub no_value : (text : List ℕ) → position is_star text ≡ None → text ≢ codes "-"
    → ((bytes : List ℕ) → IsHexText text bytes → ⊥) → (value : List ℕ) → IsValueText text value → ⊥
no_value text missing dash none value (no_bytes is empty) = dash is
no_value text missing dash none value (plain h) = none value h
no_value text missing dash none value (repeated digits times e h) =
    has_star text digits times (h.byte ∷ []) h.hex e missing

-- the text before and after a star
pub around_star : (text : List ℕ) (i : ℕ) → position is_star text ≡ Some i
    → text ≡ take i text ++ codes "*" ++ drop (i + 1) text
around_star text i found =
    let at = position-Some is_star text i 0 found in
    let place = first_place is_star text i found in
    let P : ℕ → Type 0 = λ n. n < length text → text ≡ take n text
    ++ (get_or text n 0 ∷ drop (n + 1) text) in
    let cut = subst P place.0 (split_at_first is_star text 0) at.0 in
    cut ∙ ap (λ b. take i text ++ (b ∷ drop (i + 1) text)) (eqb-true (get_or text i 0) 0x2A at.1)
    ∙ sym (append_assoc (take i text) (0x2A ∷ []) (drop (i + 1) text))

pub cut_value : (text : List ℕ) (i : ℕ) (value : List ℕ) → position is_star text ≡ Some i
    → IsRepeatedText (take i text) (drop (i + 1) text) value → IsValueText text value
cut_value text i value found h = repeated (take i text) (drop (i + 1) text)
    (around_star text i found) h

-- a text with a star is a repeated byte or not VALUE
pub value_cut : (text : List ℕ) (i : ℕ) (value : List ℕ) → position is_star text ≡ Some i
    → IsValueText text value → IsRepeatedText (take i text) (drop (i + 1) text) value
value_cut text i value found (no_bytes is empty) = cc (sym (ap (position is_star) is) ∙ found)
value_cut text i value found (plain h) = absurd (hex_has_no_star text value i h found)
value_cut text i value found (repeated digits times e h) =
    let parts = cut_at_star text digits times (h.byte ∷ []) i h.hex e found in
    let P : List ℕ → Type 0 = λ front. IsRepeatedText front times value in
    let Q : List ℕ → Type 0 = λ back. IsRepeatedText (take i text) back value in
    subst Q (sym parts.1) (subst P (sym parts.0) h)

pub same_number : (text : List ℕ) (m n : ℕ) → IsNumberText text m → IsNumberText text n → m ≡ n
same_number text m n h g = sym h.value ∙ g.value

same_repeated : (digits times a b : List ℕ) → IsRepeatedText digits times a
    → IsRepeatedText digits times b → a ≡ b
same_repeated digits times a b h g =
    let bytes : h.byte ∷ [] ≡ g.byte ∷ [] = same_bytes digits (h.byte ∷ [])
    (g.byte ∷ []) h.hex g.hex in
    let byte : h.byte ≡ g.byte = cc in
    let n : h.n ≡ g.n = same_number times h.n g.n h.number g.number in
    h.repeats ∙ ap (λ m. replicate m h.byte) n ∙ ap (λ x. replicate g.n x) byte ∙ sym g.repeats

star_found : (text digits times bytes : List ℕ) → IsHexText digits bytes → text ≡ digits
    ++ codes "*" ++ times
    → position is_star text ≡ Some (position_or_len is_star text)
star_found text digits times bytes h e =
    let shape = starred text digits times e in
    let at_length = star_after digits times (starless digits bytes h) in
    let lt : position_or_len is_star text < length text =
    omega (
      arith,
      ap (position_or_len is_star) shape,
      at_length,
      ap (λ x. length x) shape,
      length-append digits (0x2A ∷ times),
    ) in
    rw (lt-ltb (position_or_len is_star text) (length text) lt) refl

no_hex_dash : (text bytes : List ℕ) → text ≡ codes "-" → IsHexText text bytes → ⊥
no_hex_dash text bytes is h =
    let even = (decode_of-ok text bytes h.digits).0 in
    let one : length text ≡ 1 = ap (λ x. length x) is in
    omega (arith, even, one)

-- a text has one value
pub same_value : (text a b : List ℕ) → IsValueText text a → IsValueText text b → a ≡ b
same_value text a b (no_bytes is empty) (no_bytes is' empty') = empty ∙ sym empty'
same_value text a b (no_bytes is empty) (plain g) = absurd (no_hex_dash text b is g)
same_value text a b (plain h) (no_bytes is empty) = absurd (no_hex_dash text a is h)
same_value text a b (plain h) (plain g) = same_bytes text a b h g
same_value text a b (no_bytes is empty) (repeated digits times e g) =
    absurd (has_star text digits times (g.byte ∷ []) g.hex e (ap (position is_star) is))
same_value text a b (repeated digits times e h) (no_bytes is empty) =
    absurd (has_star text digits times (h.byte ∷ []) h.hex e (ap (position is_star) is))
same_value text a b (plain h) (repeated digits times e g) =
    absurd (hex_has_no_star text a _ h (star_found text digits times (g.byte ∷ []) g.hex e))
same_value text a b (repeated digits times e h) (plain g) =
    absurd (hex_has_no_star text b _ g (star_found text digits times (h.byte ∷ []) h.hex e))
same_value text a b (repeated digits times e h) (repeated digits' times' e' g) =
    let found = star_found text digits times (h.byte ∷ []) h.hex e in
    let i = position_or_len is_star text in
    same_repeated (take i text) (drop (i + 1) text) a b
    (value_cut text i a found (repeated digits times e h))
    (value_cut text i b found (repeated digits' times' e' g))
