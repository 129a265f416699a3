-- Objects in COMPACT-TLV.
use Rattle.std.proofs.Common.{if◌then◌else◌, ◌≡◌, ℕ, zero, suc, ◌+◌, ◌-◌, ◌/◌, ◌%◌, ◌<◌, ◌==◌, ◌&&◌, List, [], ◌∷◌, length, drop, get_or, None, Bool, true, false, refl, ap, ◌∙◌, arith, add-one, drop-cons, length-drop}
use Rattle.std.proofs.lemmas.List.{drop-drop}
use Rattle.atr_core.specs.HistoricalBytes.{compact_status, status_from}

-- bytes that are skipped
skipped : (n : ℕ) (bytes : List ℕ) → compact_status n bytes ≡ compact_status 0 (drop n bytes)
skipped zero bytes = refl
skipped (suc n) [] = refl
skipped (suc n) (b ∷ bytes) = skipped n bytes

-- a value that is cut off has no status after it
too_short : (n : ℕ) (bytes : List ℕ) → length bytes < n → compact_status n bytes ≡ None
too_short zero bytes h = absurd (omega arith)
too_short (suc n) [] h = refl
too_short (suc n) (b ∷ bytes) h = too_short n bytes (omega arith)

-- whether the object at a place is the last and a status
abbrev pub is_last : List ℕ → ℕ → Bool
is_last bytes place = get_or bytes place 0 / 16 == 8
    && (length bytes - place - 1) == get_or bytes place 0 % 16

-- the result from the object at a place
at_object : (bytes : List ℕ) (place : ℕ) → place < length bytes
    → compact_status 0 (drop place bytes)
    ≡ (if is_last bytes place then status_from (drop (place + 1) bytes)
    else compact_status (get_or bytes place 0 % 16) (drop (place + 1) bytes))
at_object bytes place h =
    let size : length (drop (place + 1) bytes) ≡ length bytes - place - 1
    = omega (arith, length-drop (place + 1) bytes) in
    let split : drop place bytes ≡ get_or bytes place 0 ∷ drop (place + 1) bytes
    = rw add-one (drop-cons bytes place 0 h) in
    rw (split, size) refl

pub last_object : (bytes : List ℕ) (place : ℕ) → place < length bytes
    → is_last bytes place ≡ true
    → compact_status 0 (drop place bytes) ≡ status_from (drop (place + 1) bytes)
last_object bytes place h is = at_object bytes place h ∙ rw is refl

pub other_object : (bytes : List ℕ) (place : ℕ) → place < length bytes
    → is_last bytes place ≡ false → compact_status 0 (drop place bytes)
    ≡ compact_status 0 (drop (place + (1 + get_or bytes place 0 % 16)) bytes)
other_object bytes place h is =
    let n : ℕ = get_or bytes place 0 % 16 in
    let sum : place + 1 + n ≡ place + (1 + n) = omega arith in
    at_object bytes place h ∙ rw is (skipped n (drop (place + 1) bytes)
    ∙ ap (λ x. compact_status 0 x) (drop-drop n (place + 1) bytes)
    ∙ ap (λ m. compact_status 0 (drop m bytes)) sum)

pub cut_object : (bytes : List ℕ) (place : ℕ) → place < length bytes
    → is_last bytes place ≡ false → length bytes - place - 1 < get_or bytes place 0 % 16
    → compact_status 0 (drop place bytes) ≡ None
cut_object bytes place h is short =
    let n : ℕ = get_or bytes place 0 % 16 in
    at_object bytes place h ∙ rw is (too_short n (drop (place + 1) bytes)
    (omega (arith, length-drop (place + 1) bytes)))
