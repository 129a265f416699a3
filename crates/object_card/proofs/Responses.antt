-- What is left of a response, byte by byte.
use Rattle.std.proofs.Common.{ℕ, List, [], ◌≡◌, ◌++◌, ◌∙◌, ◌+◌, ◌-◌, ◌<◌, ◌≤◌, Some, ap, sym, subst, take, length, drop, arith, append-nil, length-append, length-drop, length-take}
use Rattle.std.specs.Prelude.{min, slice_get, slice_index_or}
use Rattle.std.proofs.lemmas.Slice.{take-put_mid}
use Rattle.std.proofs.lemmas.List.{take_at, get_or-take, get_or-drop, get_or_append_left, get_or-append_right, length-take-le, take-append-le, take_min, drop-append-le, drop-drop, drop-take, take-take}
use Rattle.std.proofs.lemmas.Option.{slice_get-get_or}
use Rattle.std.proofs.Math.Nat.{le-min, min-le_right}
use Rattle.std.proofs.Math.Seq.{drop-append-add}
use Rattle.t0_core.specs.DataRun.{IsRunAt}
use borrow.Rule.Slice.PartMut.{put_mid}

pub both_copied : (first second cells start rest : List ℕ) (a n : ℕ) → start ≡ first → rest ≡ second
    → length start ≡ a → n ≡ a + length rest
    → take n (put_mid a (n - a) (start ++ drop a cells) rest) ≡ first ++ second
both_copied first second cells start rest a n e1 e2 ea en =
    take-put_mid a (n - a) (start ++ drop a cells) rest n en
    (omega (arith, length-append start (drop a cells)))
    ∙ ap (λ x. x ++ rest) (take_at start (drop a cells) a ea) ∙ cc

pub byte-front : (front value : List ℕ) (len sent at : ℕ) → length front ≡ 20 → len ≤ 20 → sent + at
    < len
    → slice_get (drop sent (take len front ++ value)) at ≡ Some (slice_index_or front (sent + at) 0)
byte-front front value len sent at long fits before =
    slice_get-get_or (drop sent (take len front ++ value)) at 0
    (omega (
      arith,
      length-drop sent (take len front ++ value),
      length-append
          (take len front) value,
      length-take len front,
      long,
      fits,
      before,
    ))
    ∙ ap Some (get_or-drop sent (take len front ++ value) at 0
    ∙ get_or_append_left (take len front) value 0 (sent + at)
    (omega (arith, length-take len front, long, fits, before))
    ∙ get_or-take len front (sent + at) 0 before)

pub byte-value : (front value : List ℕ) (len sent at : ℕ) → length front ≡ 20 → len ≤ 20 → len
    ≤ sent + at → at < length (drop sent (take len front ++ value))
    → slice_get (drop sent (take len front ++ value)) at
    ≡ Some (slice_index_or value (sent + at - len) 0)
byte-value front value len sent at long fits past within =
    slice_get-get_or (drop sent (take len front ++ value)) at 0 within
    ∙ ap Some (get_or-drop sent (take len front ++ value) at 0
    ∙ get_or-append_right (take len front) value len (sent + at) 0
    (omega (arith, length-take len front, long, fits)) past)

-- its length fits into a number
pub begun-small : (front value : List ℕ) (len sent : ℕ) → len ≤ 20 → sent
    ≤ length (take len front ++ value) → sent ≤ 20 + length value
begun-small front value len sent fits begun =
    omega (arith, begun, fits, length-append (take len front) value, length-take len front)

-- a copy into the middle keeps the length
pub length-put_mid : (a k : ℕ) (xs ys : List ℕ) → length ys ≡ k → a + k ≤ length xs
    → length (put_mid a k xs ys) ≡ length xs
length-put_mid a k xs ys e fits =
    omega (
      arith,
      length-append (take a xs) (ys ++ drop k (drop a xs)),
      length-append ys
          (drop k (drop a xs)),
      length-take a xs,
      length-drop k
          (drop a xs),
      length-drop a xs,
      e,
      fits,
    )

pub length-both : (start rest cells : List ℕ) (a n : ℕ) → length cells ≡ 20 → length start ≡ a → n
    ≡ a + length rest → n ≤ 20
    → length (put_mid a (n - a) (start ++ drop a cells) rest) ≡ 20
length-both start rest cells a n long e en fits =
    let whole : length (start ++ drop a cells) ≡ 20 =
    omega (arith, length-append start (drop a cells), length-drop a cells, long, e, en, fits) in
    length-put_mid a (n - a) (start ++ drop a cells) rest (omega (arith, en))
    (omega (arith, whole, en, fits)) ∙ whole

-- ---- a run of what is left

-- the first bytes of a part, where the part is followed by others
first-run : (part rest whole : List ℕ) (at most : ℕ) → drop at whole ≡ part ++ rest
    → 0 < length part → 0 < most → IsRunAt whole at (take most part)
first-run part rest whole at most is some room =
    let len : length (take most part) ≡ min most (length part) = length-take most part in
    let least : 0 < length (take most part) =
    subst (λ n. 0 < n) (sym len) (le-min room some) in
    let within : length (take most part) ≤ length part =
    subst (λ n. n ≤ length part) (sym len) (min-le_right most (length part)) in (
      least,
      sym (ap (λ bs. take (length (take most part)) bs) is
          ∙ take-append-le (length (take most part)) part rest within
          ∙ ap (λ n. take n part) len ∙ take_min most part),
    )

pub run-front : (front value : List ℕ) (len sent at most : ℕ) → length front ≡ 20 → len ≤ 20
    → sent + at < len → 0 < most
    → IsRunAt (drop sent (take len front ++ value)) at
    (take most (take (len - (sent + at)) (drop (sent + at) front)))
run-front front value len sent at most long fits before room =
    let p : ℕ = sent + at in
    let part : List ℕ = take (len - p) (drop p front) in
    let whole : p + (len - p) ≡ len = omega (arith, before) in
    let inside : p ≤ length (take len front) =
    omega (arith, length-take-le len front (omega (arith, long, fits)), before) in
    let is : drop at (drop sent (take len front ++ value)) ≡ part ++ value =
    drop-drop at sent (take len front ++ value)
    ∙ drop-append-le p (take len front) value inside
    ∙ ap (λ n. drop p (take n front) ++ value) (sym whole)
    ∙ ap (λ bs. bs ++ value) (drop-take p (len - p) front) in
    first-run part value (drop sent (take len front ++ value)) at most is
    (omega (
      arith,
      before,
      length-take-le (len - p) (drop p front)
          (omega (arith, length-drop p front, long, fits)),
    )) room

pub run-value : (front value : List ℕ) (len sent at most : ℕ) → length front ≡ 20 → len ≤ 20
    → len ≤ sent + at → at < length (drop sent (take len front ++ value)) → 0 < most
    → IsRunAt (drop sent (take len front ++ value)) at
    (take most (drop (sent + at - len) value))
run-value front value len sent at most long fits past within room =
    let p : ℕ = sent + at in
    let part : List ℕ = drop (p - len) value in
    let len_is : length (take len front) ≡ len =
    length-take-le len front (omega (arith, long, fits)) in
    let place : length (take len front) + (p - len) ≡ p = omega (arith, len_is, past) in
    let is : drop at (drop sent (take len front ++ value)) ≡ part =
    drop-drop at sent (take len front ++ value)
    ∙ ap (λ n. drop n (take len front ++ value)) (sym place)
    ∙ drop-append-add (take len front) value (p - len) in
    let some : 0 < length part =
    subst (λ bs. 0 < length bs) is
    (omega (arith, length-drop at (drop sent (take len front ++ value)), within)) in
    first-run part [] (drop sent (take len front ++ value)) at most (is ∙ sym (append-nil part))
    some room

-- the card sends the first of what is left
pub run-within : (left run : List ℕ) (n at : ℕ) → at + length run ≤ n → IsRunAt left at run
    → IsRunAt (take n left) at run
run-within left run n at fits is =
    let whole : at + (n - at) ≡ n = omega (arith, fits) in (
      is.0,
      is.1 ∙ sym (take-take (length run) (n - at) (drop at left) (omega (arith, fits)))
          ∙ ap (λ bs. take (length run) bs) (sym (drop-take at (n - at) left)
          ∙ ap (λ k. drop at (take k left)) whole),
    )
