-- A dialogue continues by one character at a time, and ends as a dialogue.
use Rattle.std.proofs.Common.{◌≡◌, ℕ, zero, suc, ◌+◌, ◌-◌, ◌<◌, ◌≤◌, List, [], ◌∷◌, ◌++◌, length, take, drop, refl, sym, subst, ap, arith, inl, inr, false, append_assoc, length-append, ◌⊎◌}
use Rattle.std.proofs.lemmas.List.{take_all, take-append-le, append-nil, length-drop}
use Rattle.apdu_core.specs.HeaderBytes.{ins_is_valid}
use Rattle.t0_core.specs.declared.end.End.{End}
use Rattle.t0_core.specs.declared.end.End.TheVariants.{Terminal, Card}
use Rattle.t0_core.specs.declared.plan.Step.{Step}
use Rattle.t0_core.specs.declared.plan.Step.TheVariants.{Null, One, All}
use Rattle.t0_core.specs.Character.{Character, sent_by}
use Rattle.t0_core.specs.declared.direction.Direction.{Direction}
use Rattle.t0_core.specs.Dialogue.{Body, data_sender, foreseen, moves, all_moves, to_move, procedure_byte, segment_characters}
use Rattle.t0_core.specs.Front.{Front, In_header, In_body, After_first, front_characters, GoesOn, IsBetween, EndInLast, IsBegun, IsFront, with_segment, with_moved, BeginsSegment, BeginsStatus}
use Rattle.t0_core.specs.DialogueLaws.{all_more}

pub moves-within : (s : Step) (n : ℕ) → moves s n ≤ n
moves-within Null n = omega arith
moves-within One zero = omega arith
moves-within One (suc n) = omega arith
moves-within All n = omega arith

-- the data that one more segment moves
pub all_moves-more : (segments : List Step) (s : Step) (n : ℕ)
    → all_moves (segments ++ s ∷ []) n ≡ all_moves segments n + moves s (n - all_moves segments n)
all_moves-more [] s n = let same : n - 0 ≡ n = omega arith in rw same (omega arith)
all_moves-more (t ∷ segments) s n =
    let rest = all_moves-more segments s (n - moves t n) in
    let same : (n - moves t n) - all_moves segments (n - moves t n) ≡ n
    - (moves t n + all_moves segments (n - moves t n)) = omega arith in
    let Rest : ℕ → Type 0 =
    λ k. all_moves (segments ++ s ∷ []) (n - moves t n) ≡ all_moves segments (n - moves t n)
    + moves s k in
    omega (arith, subst Rest same rest)

pub all_moves-within : (segments : List Step) (n : ℕ) → all_moves segments n ≤ n
all_moves-within [] n = omega arith
all_moves-within (s ∷ segments) n =
    omega (arith, moves-within s n, all_moves-within segments (n - moves s n))

-- one more data character of the last segment
moved_in_last : (segments : List Step) (n : ℕ) (k : ℕ) → EndInLast segments n k
    → k < all_moves segments n → EndInLast segments n (k + 1)
moved_in_last [] n k in_last lt = absurd (omega (arith, lt))
moved_in_last (s ∷ []) n k in_last lt = omega (arith, lt)
moved_in_last (s ∷ t ∷ segments) n k in_last lt = (
  omega (arith, in_last.0),
  subst_le (moved_in_last (t ∷ segments) (n - moves s n) (k - moves s n) in_last.1
      (omega (arith, lt, in_last.0))),
)
  where
    subst_le : EndInLast (t ∷ segments) (n - moves s n) (k - moves s n + 1)
        → EndInLast (t ∷ segments) (n - moves s n) (k + 1 - moves s n)
    subst_le h = let P : ℕ → Type 0 = λ m. EndInLast (t ∷ segments) (n - moves s n) m in
        let e : k - moves s n + 1 ≡ k + 1 - moves s n = omega (arith, in_last.0) in subst P e h

sent_append : (from : End) (bytes : List ℕ) (x : ℕ)
    → sent_by from (bytes ++ x ∷ []) ≡ sent_by from bytes ++ (from, x) ∷ []
sent_append from [] x = refl
sent_append from (b ∷ bytes) x = ap (λ cs. (from, b) ∷ cs) (sent_append from bytes x)

drop-append : (n : ℕ) (bytes : List ℕ) (x : ℕ) → n ≤ length bytes
    → drop n (bytes ++ x ∷ []) ≡ drop n bytes ++ x ∷ []
drop-append zero bytes x le = refl
drop-append (suc n) [] x le = absurd (omega (arith, le))
drop-append (suc n) (b ∷ bytes) x le = drop-append n bytes x (omega (arith, le))

moved_characters : (ins : ℕ) (direction : Direction) (segments : List Step) (n : ℕ) (moved : List ℕ)
    (x : ℕ) → EndInLast segments n (length moved)
    → length moved < all_moves segments n
    → segment_characters ins direction segments n (moved ++ x ∷ []) ≡ segment_characters ins
    direction segments n moved ++ (data_sender direction, x) ∷ []
moved_characters ins direction [] n moved x in_last lt = absurd (omega (arith, lt))
moved_characters ins direction (s ∷ []) n moved x in_last lt =
    let longer : length (moved ++ x ∷ []) ≤ moves s n =
    omega (arith, lt, length-append moved (x ∷ [])) in
    rw (
      take_all (moves s n) (moved ++ x ∷ []) longer,
      take_all (moves s n) moved in_last,
      append-nil (sent_by (data_sender direction) (moved ++ x ∷ [])),
      append-nil (sent_by (data_sender direction) moved),
      sent_append (data_sender direction) moved x,
    ) refl
moved_characters ins direction (s ∷ t ∷ segments) n moved x in_last lt =
    rw (
      take-append-le (moves s n) moved (x ∷ []) in_last.0,
      drop-append (moves s n) moved x in_last.0,
      moved_characters ins direction (t ∷ segments) (n - moves s n) (drop (moves s n) moved) x
          (in_rest in_last.1) (shorter lt),
    )
    (ap (λ cs. (Card, procedure_byte ins s) ∷ cs)
    (sym (append_assoc (sent_by (data_sender direction) (take (moves s n) moved)) _ _)))
  where
    left : length (drop (moves s n) moved) ≡ length moved - moves s n
    left = length-drop (moves s n) moved

    in_rest : EndInLast (t ∷ segments) (n - moves s n) (length moved - moves s n)
        → EndInLast (t ∷ segments) (n - moves s n) (length (drop (moves s n) moved))
    in_rest h = let P : ℕ → Type 0 = λ k. EndInLast (t ∷ segments) (n - moves s n) k in
        subst P (sym left) h

    shorter : length moved < moves s n + all_moves (t ∷ segments) (n - moves s n)
        → length (drop (moves s n) moved) < all_moves (t ∷ segments) (n - moves s n)
    shorter h = omega (arith, h, left, in_last.0)

-- a character that is not data comes from the card, between segments
pub begins_between : (b : Body) (c : Character) (new : Front)
    → BeginsSegment b c new ⊎ BeginsStatus b c new → IsBetween b × (c.0 ≡ Card)
begins_between b c new (inl begins) = (begins.0, begins.1)
begins_between b c new (inr begins) = (begins.0, begins.1)

abbrev nothing : List ℕ
nothing = []

-- one more segment
begun_in_last : (segments : List Step) (s : Step) (n k : ℕ) → EndInLast segments n k
    → k ≡ all_moves segments n → EndInLast (segments ++ s ∷ []) n k
begun_in_last [] s n k in_last is = omega (arith, in_last)
begun_in_last (t ∷ []) s n k in_last is = (omega (arith, is), omega (arith, is))
begun_in_last (t ∷ u ∷ segments) s n k in_last is = (
  in_last.0,
  begun_in_last (u ∷ segments) s (n - moves t n) (k - moves t n) in_last.1
      (omega (arith, is)),
)

segment_append : (ins : ℕ) (direction : Direction) (segments : List Step) (s : Step) (n : ℕ)
    (moved : List ℕ) → length moved ≡ all_moves segments n
    → segment_characters ins direction (segments ++ s ∷ []) n moved ≡ segment_characters ins
    direction segments n moved ++ (Card, procedure_byte ins s) ∷ []
segment_append ins direction [] s n [] is = let none : take (moves s n) nothing ≡ [] =
    take_all (moves s n) nothing (omega arith) in rw none refl
segment_append ins direction [] s n (b ∷ bytes) is = absurd (omega (arith, is))
segment_append ins direction (t ∷ segments) s n moved is =
    rw (segment_append ins direction segments s (n - moves t n) (drop (moves t n) moved)
    (omega (arith, is, length-drop (moves t n) moved)))
    (ap (λ cs. (Card, procedure_byte ins t) ∷ cs)
    (sym (append_assoc (sent_by (data_sender direction) (take (moves t n) moved)) _ _)))

-- the front continues with this character
abbrev pub Grows : Front → Character → Front → Type 0
Grows front c new = IsFront new × (front_characters new ≡ front_characters front ++ c ∷ [])

data_grow : (b : Body) (x : ℕ) → IsBegun b → length b.moved < to_move b
    → Grows (In_body b) (data_sender b.direction, x) (In_body (with_moved b x))
data_grow b x is lt =
    let n = foreseen b.direction b.p3 in
    let InLast : ℕ → Type 0 = λ k. EndInLast b.segments n k in
    let longer : length b.moved + 1 ≡ length (b.moved ++ x ∷ []) =
    sym (length-append b.moved (x ∷ [])) in (
      record {
        in_last = subst InLast longer
            (moved_in_last b.segments n (length b.moved) is.in_last lt);
        only_nulls = is.only_nulls;
      },
      rw (moved_characters b.header.ins b.direction b.segments n b.moved x is.in_last lt)
          refl,
    )

segments_grow : (b : Body) (s : Step) → IsBegun b → IsBetween b
    → (ins_is_valid b.header.ins ≡ false → s ≡ Null)
    → Grows (In_body b) (Card, procedure_byte b.header.ins s) (In_body (with_segment b s))
segments_grow b s is between nulls =
    let n = foreseen b.direction b.p3 in (
      record {
        in_last = begun_in_last b.segments s n (length b.moved) is.in_last between;
        only_nulls = λ invalid. all_more (λ t. t ≡ Null) b.segments s (is.only_nulls invalid)
            (nulls invalid);
      },
      rw (segment_append b.header.ins b.direction b.segments s n b.moved between)
          refl,
    )

pub goes_on : (front new : Front) (c : Character) → IsFront front → GoesOn front c new
    → Grows front c new
goes_on (In_header bytes) new (e, x) is (from, inl (short, new_is)) =
    rw (new_is, from) (
      omega (arith, short, length-append bytes (x ∷ [])),
      sent_append Terminal bytes x,
    )
goes_on (In_header bytes) new (e, x) is (from, inr (h, direction, bytes_is, new_is)) =
    rw (new_is, from, bytes_is) (record { in_last = refl; only_nulls = λ _. tt }, refl)
goes_on (In_body b) new (e, x) is (inl (lt, from, new_is)) = rw (new_is, from) (data_grow b x is lt)
goes_on (In_body b) new (e, x) is (inr (inl (between, from, (s, nulls, byte, new_is)))) =
    rw (new_is, from, byte) (segments_grow b s is between nulls)
goes_on (In_body b) new (e, x) is (inr (inr (between, from, status, new_is))) =
    rw (new_is, from) ((is, between, status), refl)
goes_on (After_first b sw1) new c is goes = absurd goes
