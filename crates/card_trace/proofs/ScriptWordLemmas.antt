-- Lines and words, cut off the front one after another.
use Rattle.std.proofs.Common.{◌≡◌, ◌≢◌, ℕ, zero, suc, ◌+◌, ◌<◌, ◌≤◌, ◌==◌, List, [], ◌∷◌, length, take, drop, get_or, filter, Bool, true, Option, Some, None, refl, ap, subst, ◌∙◌, arith}
use Rattle.std.specs.List.{slice_split, position_or_len, position}
use Rattle.std.specs.Str.Lines.{lines, lines_of_parts, strip_carriage_return}
use Rattle.std.proofs.lemmas.Bool.{lt-ltb, eqb-true, ne_eqb}
use Rattle.std.proofs.lemmas.List.{length-take-le}
use Rattle.std.proofs.lemmas.List.Quantifiers.{position-Some}
use Rattle.std.proofs.lemmas.List.Sums.{position_or_len_is, fails_before_first}
use Rattle.std.proofs.lemmas.List.Splits.{slice_split_first, slice_split_none, length-slice_split}
use Rattle.std.specs.Iterator.{YieldsFirstBy, item_count, MakesProgress}
use Rattle.std.proofs.Common.{◌-◌, length-drop}
use Rattle.std.proofs.Math.Seq.{take-length}
use Rattle.std.specs.Prelude.{nat_lt, slice_index}
use Rattle.card_trace.specs.ScriptWords.{words_in}

abbrev is : ℕ → ℕ → Bool
is byte other = other == byte

-- the first index at which the test passes
pub first_place : (p : ℕ → Bool) (xs : List ℕ) (i : ℕ) → position p xs ≡ Some i
    → (position_or_len p xs ≡ i) × (i < length xs)
first_place p xs i h =
    let at = position-Some p xs i 0 h in
    (position_or_len_is p xs i 0 (omega (arith, at.0)) at.2 (λ _. at.1), at.0)

-- the test passes at no index
pub no_place : (p : ℕ → Bool) (xs : List ℕ) → position p xs ≡ None → length xs
    ≤ position_or_len p xs
no_place p xs h = grind arith

pub one_part : (p : ℕ → Bool) (xs : List ℕ) → position p xs ≡ None → slice_split p xs ≡ xs ∷ []
one_part p xs h = slice_split_none p xs
    (λ k d lt. fails_before_first p xs k d (omega (arith, no_place p xs h, lt)))

pub first_part : (p : ℕ → Bool) (xs : List ℕ) (i : ℕ) → position p xs ≡ Some i
    → slice_split p xs ≡ take i xs ∷ slice_split p (drop (i + 1) xs)
first_part p xs i h =
    let at = first_place p xs i h in
    let P : ℕ → Type 0 = λ n. n < length xs → slice_split p xs ≡ take n xs
    ∷ slice_split p (drop (n + 1) xs) in
    subst P at.0 (slice_split_first p xs 0) at.1

kept : (test : List ℕ → Bool) (x : List ℕ) (xs : List (List ℕ)) → test x ≡ true
    → filter test (x ∷ xs) ≡ x ∷ filter test xs
kept test x xs e = rw e refl

abbrev is_word : List ℕ → Bool
is_word word = nat_lt 0 (length word)

pub last_word : (text : List ℕ) → 0 < length text → position (is 0x20) text ≡ None
    → words_in text ≡ text ∷ []
last_word text some h =
    ap (filter is_word) (one_part (is 0x20) text h)
    ∙ kept is_word text [] (lt-ltb 0 (length text) some)

-- the first space is not at the front
after_front : (text : List ℕ) (i : ℕ) → slice_index text 0 ≢ 0x20 → (get_or text i 0 == 0x20) ≡ true
    → 0 < i
after_front text zero front e = absurd (front (eqb-true (get_or text 0 0) 0x20 e))
after_front text (suc i) front e = omega arith

pub word_then : (text : List ℕ) (i : ℕ) → slice_index text 0 ≢ 0x20 → position (is 0x20) text
    ≡ Some i
    → words_in text ≡ take i text ∷ words_in (drop (i + 1) text)
word_then text i front h =
    let at = position-Some (is 0x20) text i 0 h in
    let some = after_front text i front at.1 in
    let len = length-take-le i text (omega (arith, at.0)) in
    ap (filter is_word) (first_part (is 0x20) text i h)
    ∙ kept is_word (take i text) (slice_split (is 0x20) (drop (i + 1) text))
    (lt-ltb 0 (length (take i text)) (omega (arith, len, some)))

one_line : (bytes : List ℕ) → 0 < length bytes → lines_of_parts (bytes ∷ []) ≡ bytes ∷ []
one_line [] some = absurd (omega arith)
one_line (b ∷ bytes) some = rw (ne_eqb (length (b ∷ bytes)) 0 (λ e. omega (arith, e))) refl

pub last_line : (bytes : List ℕ) → 0 < length bytes → position (is 0x0A) bytes ≡ None
    → lines bytes ≡ bytes ∷ []
last_line bytes some h = ap lines_of_parts (one_part (is 0x0A) bytes h) ∙ one_line bytes some

parts_more : (line : List ℕ) (parts : List (List ℕ)) → 0 < length parts
    → lines_of_parts (line ∷ parts) ≡ strip_carriage_return line ∷ lines_of_parts parts
parts_more line [] some = absurd (omega arith)
parts_more line (part ∷ parts) some = refl

pub line_then : (bytes : List ℕ) (i : ℕ) → position (is 0x0A) bytes ≡ Some i
    → lines bytes ≡ strip_carriage_return (take i bytes) ∷ lines (drop (i + 1) bytes)
line_then bytes i h =
    let rest = drop (i + 1) bytes in
    ap lines_of_parts (first_part (is 0x0A) bytes i h)
    ∙ parts_more (take i bytes) (slice_split (is 0x0A) rest)
    (omega (arith, length-slice_split (is 0x0A) rest))

-- the whole rest after an index
pub rest_whole : (n : ℕ) (xs : List ℕ) → take (length xs - n) (drop n xs) ≡ drop n xs
rest_whole n xs =
    let P : ℕ → Type 0 = λ m. take m (drop n xs) ≡ drop n xs in
    subst P (length-drop n xs) (take-length (drop n xs))

-- an iterator that returns the first of the rest ends
pub makes_progress : {A : Type 0} (view : A → List ℕ) (left others : List (List ℕ)) (r : Option A)
    → YieldsFirstBy view (λ l. l) left r others
    → MakesProgress (λ _. Unit {0}) (item_count (λ l. l)) left r others
makes_progress view left others None gave = record { on = λ _. tt; keeps = tt; rests = λ _. tt }
makes_progress view left others (Some x) gave =
    let fewer = ap (λ l. length l) gave in
    record { on = λ _. (tt, tt, omega (arith, fewer)); keeps = tt; rests = λ _. tt }
