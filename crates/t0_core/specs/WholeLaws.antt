-- Each front begins a dialogue, and each dialogue is passed front by front.
use Rattle.std.proofs.Common.{◌≡◌, ℕ, zero, suc, ◌+◌, ◌-◌, ◌<◌, ◌≤◌, List, [], ◌∷◌, ◌++◌, length, take, drop, refl, sym, subst, ◌∙◌, ap, arith, inl, inr, lit<, false, append_assoc, append-nil, length-append}
use Rattle.std.specs.List.{AllByRecursion}
use Rattle.apdu_core.specs.declared.header.Header.{Header}
use Rattle.apdu_core.specs.HeaderBytes.{header_bytes, ins_is_valid}
use Rattle.t0_core.specs.declared.end.End.TheVariants.{Terminal, Card}
use Rattle.t0_core.specs.declared.plan.Step.{Step}
use Rattle.t0_core.specs.declared.plan.Step.TheVariants.{Null}
use Rattle.t0_core.specs.declared.direction.Direction.{Direction}
use Rattle.t0_core.specs.declared.direction.Direction.TheVariants.{FromCard}
use Rattle.t0_core.specs.Character.{Character, sent_by}
use Rattle.t0_core.specs.Dialogue.{Body, Dialogue, IsDialogue, characters, body_characters, segment_characters, data_sender, foreseen, moves, all_moves, to_move, procedure_byte}
use Rattle.t0_core.specs.Front.{Front, In_header, In_body, After_first, front_characters, GoesOn, IsBetween, IsBegun, IsFront, EndInLast, GoesThrough, with_moved, with_segment, header_only, fresh}
use Rattle.std.proofs.lemmas.List.{length-drop, length-take-le, take-append-drop, take_all}
use Rattle.t0_core.specs.FrontLaws.{goes_on, all_moves-more, all_moves-within}
use Rattle.t0_core.specs.DialogueLaws.{ends_with}

-- the front begins a dialogue, and is not all of it
abbrev pub BeginsDialogue : Front → Type 0
BeginsDialogue front = (d : Dialogue) × (c : Character) × (rest : List Character) × IsDialogue d
    × (characters d ≡ front_characters front ++ c ∷ rest)

-- a body with the data that its last segment still lacked; Q holds for all data
pub record Longer (Q : List ℕ → Type 0) (b x : Body) : Type 0 where
  pub header_is : x.header ≡ b.header
  pub p3_is : x.p3 ≡ b.p3
  pub direction_is : x.direction ≡ b.direction
  pub segments_are : x.segments ≡ b.segments
  pub begun : IsBegun x
  pub between : IsBetween x
  pub own : Q x.moved
  pub rest : List Character
  pub characters_are : body_characters x ≡ body_characters b ++ rest

-- one more data byte, so that Q still holds
abbrev pub Supplies : (List ℕ → Type 0) → Body → Type 0
Supplies Q b = (moved : List ℕ) → length moved < foreseen b.direction b.p3 → Q moved
    → (y : ℕ) × Q (moved ++ y ∷ [])

pub longer : (Q : List ℕ → Type 0) (n : ℕ) (b : Body) → Supplies Q b → IsBegun b → Q b.moved
    → length b.moved + n ≡ to_move b → (x : Body) × Longer Q b x
longer Q zero b next is own e = (
  b,
  record {
    header_is = refl;
    p3_is = refl;
    direction_is = refl;
    segments_are = refl;
    begun = is;
    between = omega (arith, e);
    own = own;
    rest = [];
    characters_are = sym (append-nil (body_characters b));
  },
)
longer Q (suc n) b next is own e =
    let y = next b.moved (omega (arith, e, all_moves-within b.segments (foreseen b.direction b.p3)))
    own in
    let c : Character = (data_sender b.direction, y.0) in
    let goes : GoesOn (In_body b) c (In_body (with_moved b y.0)) =
    inl (omega (arith, e), refl, refl) in
    let grown = goes_on (In_body b) (In_body (with_moved b y.0)) c is goes in
    let one : length (b.moved ++ y.0 ∷ []) ≡ length b.moved + 1 =
    length-append b.moved (y.0 ∷ []) in
    let more = longer Q n (with_moved b y.0) next grown.0 y.1 (omega (arith, e, one)) in
    let one_on : body_characters (with_moved b y.0) ++ more.1.rest ≡ body_characters b ++ c
    ∷ more.1.rest =
    ap (λ cs. cs ++ more.1.rest) grown.1
    ∙ append_assoc (body_characters b) (c ∷ []) more.1.rest in (
      more.0,
      record {
        header_is = more.1.header_is;
        p3_is = more.1.p3_is;
        direction_is = more.1.direction_is;
        segments_are = more.1.segments_are;
        begun = more.1.begun;
        between = more.1.between;
        own = more.1.own;
        rest = c ∷ more.1.rest;
        characters_are = more.1.characters_are ∙ one_on;
      },
    )

-- any data will do
abbrev pub Any : List ℕ → Type 0
Any moved = Unit {0}

pub zeros : (b : Body) → Supplies Any b
zeros b moved lt own = (0, tt)

abbrev pub closed : Body → Dialogue
closed b = record { body = b; status = (0x90, 0x00) }

pub closed_is : (b : Body) → IsBegun b → IsBetween b → IsDialogue (closed b)
closed_is b is between =
    record { moved_by_segments = between; is_status = (refl, lit< tt); only_nulls = is.only_nulls }

-- a list that is followed by two characters has a first one
pub head_of : (rest : List Character) (a b : Character) → (c : Character) × (cs : List Character)
    × (rest ++ a ∷ b ∷ [] ≡ c ∷ cs)
head_of [] a b = (a, b ∷ [], refl)
head_of (x ∷ rest) a b = (x, rest ++ a ∷ b ∷ [], refl)

pub owes : (b : Body) → IsBegun b → length b.moved ≤ to_move b
owes b is = within b.segments (foreseen b.direction b.p3) (length b.moved) is.in_last
  where
    within : (segments : List Step) (n k : ℕ) → EndInLast segments n k → k ≤ all_moves segments n
    within [] n k h = omega (arith, h)
    within (s ∷ []) n k h = omega (arith, h)
    within (s ∷ t ∷ segments) n k h =
        omega (arith, h.0, within (t ∷ segments) (n - moves s n) (k - moves s n) h.1)

-- a body that can be continued to a dialogue
pub closes : (Q : List ℕ → Type 0) (b x : Body) → Longer Q b x
    → (c : Character) × (rest : List Character) × IsDialogue (closed x)
    × (characters (closed x) ≡ body_characters b ++ c ∷ rest)
closes Q b x whole =
    let more = head_of whole.rest (Card, 0x90) (Card, 0x00) in (
      more.0,
      more.1,
      closed_is x whole.begun whole.between,
      ap (λ cs. cs ++ (Card, 0x90) ∷ (Card, 0x00) ∷ []) whole.characters_are
          ∙ append_assoc (body_characters b) whole.rest ((Card, 0x90) ∷ (Card, 0x00) ∷ [])
          ∙ ap (λ cs. body_characters b ++ cs) more.2,
    )

begun_so : (cla ins p1 p2 : ℕ) → let d : Dialogue =
    closed (header_only (record { cla = cla; ins = ins; p1 = p1; p2 = p2 }) 0 FromCard) in
    (bytes : List ℕ) (c : Character) (rest : List Character)
    → characters d ≡ sent_by Terminal bytes ++ c ∷ rest → BeginsDialogue (In_header bytes)
begun_so cla ins p1 p2 bytes c rest e = (
  closed (header_only (record { cla = cla; ins = ins; p1 = p1; p2 = p2 }) 0 FromCard),
  c,
  rest,
  record { moved_by_segments = refl; is_status = (refl, lit< tt); only_nulls = λ _. tt },
  e,
)

header_begins : (bytes : List ℕ) → length bytes < 5 → BeginsDialogue (In_header bytes)
header_begins [] lt = begun_so 0 0 0 0 [] _ _ refl
header_begins (a ∷ []) lt = begun_so a 0 0 0 (a ∷ []) _ _ refl
header_begins (a ∷ b ∷ []) lt = begun_so a b 0 0 (a ∷ b ∷ []) _ _ refl
header_begins (a ∷ b ∷ c ∷ []) lt = begun_so a b c 0 (a ∷ b ∷ c ∷ []) _ _ refl
header_begins (a ∷ b ∷ c ∷ e ∷ []) lt = begun_so a b c e (a ∷ b ∷ c ∷ e ∷ []) _ _ refl
header_begins (a ∷ b ∷ c ∷ e ∷ f ∷ bytes) lt = absurd (omega (arith, lt))

pub begins : (front : Front) → IsFront front → BeginsDialogue front
begins (In_header bytes) is = header_begins bytes is
begins (In_body b) is =
    let x = longer Any (to_move b - length b.moved) b (zeros b) is tt (omega (arith, owes b is)) in
    let d = closes Any b x.0 x.1 in (closed x.0, d.0, d.1, d.2, d.3)
begins (After_first b sw1) is =
    let d : Dialogue = record { body = b; status = (sw1, 0) } in (
      d,
      (Card, 0),
      [],
      record {
        moved_by_segments = is.1;
        is_status =
            (is.2.0, lit< tt);
        only_nulls = is.0.only_nulls;
      },
      ends_with (After_first b sw1) 0 d (refl, lit< tt, refl),
    )

-- ---- each front is reached, and each dialogue is passed

-- from this front a dialogue continues with these characters, front by front, to that one
abbrev pub GoesTo : Front → List Character → Front → Type 0
GoesTo front [] other = front ≡ other
GoesTo front (c ∷ cs) other = (new : Front) × GoesOn front c new × GoesTo new cs other

abbrev body_of : Header → ℕ → Direction → List Step → List ℕ → Body
body_of h p3 direction segments moved =
    record { header = h; p3 = p3; direction = direction; segments = segments; moved = moved }

to_data : (h : Header) (p3 : ℕ) (x : Direction) (segments : List Step)
    (moved bytes : List ℕ) (rest : List Character) (f : Front)
    → length moved + length bytes ≤ all_moves segments (foreseen x p3)
    → GoesTo (In_body (body_of h p3 x segments (moved ++ bytes))) rest f
    → GoesTo (In_body (body_of h p3 x segments moved)) (sent_by (data_sender x) bytes ++ rest) f
to_data h p3 x segments moved [] rest f le to =
    let P : List ℕ → Type 0 = λ m. GoesTo (In_body (body_of h p3 x segments m)) rest f in
    subst P (append-nil moved) to
to_data h p3 x segments moved (y ∷ bytes) rest f le to =
    let longer : length (moved ++ y ∷ []) ≡ length moved + 1 = length-append moved (y ∷ []) in
    let P : List ℕ → Type 0 = λ m. GoesTo (In_body (body_of h p3 x segments m)) rest f in (
      In_body (body_of h p3 x segments (moved ++ y ∷ [])),
      inl (omega (arith, le), refl, refl),
      to_data h p3 x segments (moved ++ y ∷ []) bytes rest f (omega (arith, le, longer))
          (subst P (sym (append_assoc moved (y ∷ []) bytes)) to),
    )

-- one segment, with data that it moves
to_segment : (b : Body) (s : Step) (bytes : List ℕ) (rest : List Character) (f : Front)
    → IsBetween b → (ins_is_valid b.header.ins ≡ false → s ≡ Null)
    → length bytes ≤ moves s (foreseen b.direction b.p3 - to_move b)
    → GoesTo (In_body (body_of b.header b.p3 b.direction (b.segments ++ s ∷ [])
    (b.moved ++ bytes))) rest f
    → GoesTo (In_body b) ((Card, procedure_byte b.header.ins s)
    ∷ (sent_by (data_sender b.direction) bytes ++ rest)) f
to_segment b s bytes rest f between nulls le to = (
  In_body (with_segment b s),
  inr (inl (between, refl, (s, nulls, refl, refl))),
  to_data b.header b.p3 b.direction (b.segments ++ s ∷ []) b.moved bytes rest f
      (omega (arith, between, le, all_moves-more b.segments s (foreseen b.direction b.p3))) to,
)

to_segments : (h : Header) (p3 : ℕ) (x : Direction) (segments later : List Step)
    (moved more : List ℕ) (rest : List Character) (f : Front)
    → length moved ≡ all_moves segments (foreseen x p3)
    → EndInLast later (foreseen x p3 - all_moves segments (foreseen x p3)) (length more)
    → (ins_is_valid h.ins ≡ false → AllByRecursion (λ s. s ≡ Null) later)
    → GoesTo (In_body (body_of h p3 x (segments ++ later) (moved ++ more))) rest f
    → GoesTo (In_body (body_of h p3 x segments moved))
    (segment_characters h.ins x later (foreseen x p3 - all_moves segments (foreseen x p3)) more
    ++ rest) f
to_segments h p3 x segments [] moved [] rest f between in_last nulls to =
    let P : List Step → List ℕ → Type 0 =
    λ ss m. GoesTo (In_body (body_of h p3 x ss m)) rest f in
    let one : P segments (moved ++ []) = let Q : List Step → Type 0 = λ ss. P ss (moved ++ []) in
    subst Q (append-nil segments) to in
    let R : List ℕ → Type 0 = λ m. P segments m in subst R (append-nil moved) one
to_segments h p3 x segments [] moved (y ∷ more) rest f between in_last nulls to =
    absurd (omega (arith, in_last))
to_segments h p3 x segments (s ∷ []) moved more rest f between in_last nulls to =
    let k = moves s (foreseen x p3 - all_moves segments (foreseen x p3)) in
    rw (take_all k more in_last, append-nil (sent_by (data_sender x) more))
    (to_segment (body_of h p3 x segments moved) s more rest f between
    (λ invalid. (nulls invalid).0) in_last to)
to_segments h p3 x segments (s ∷ t ∷ later) moved more rest f between in_last nulls to =
    let n = foreseen x p3 in
    let done = all_moves segments n in
    let k = moves s (n - done) in
    let taken : length (take k more) ≡ k = length-take-le k more in_last.0 in
    let grown : all_moves (segments ++ s ∷ []) n ≡ done + k = all_moves-more segments s n in
    let left : (n - done) - k ≡ n - all_moves (segments ++ s ∷ []) n = omega (arith, grown) in
    let moved_is : length (moved ++ take k more) ≡ all_moves (segments ++ s ∷ []) n =
    omega (arith, length-append moved (take k more), taken, between, grown) in
    let Ends_at : ℕ → ℕ → Type 0 = λ r m. EndInLast (t ∷ later) r m in
    let in_rest : Ends_at ((n - done) - k) (length (drop k more)) =
    let Q : ℕ → Type 0 = λ m. Ends_at ((n - done) - k) m in
    subst Q (sym (length-drop k more)) in_last.1 in
    let in_left : Ends_at (n - all_moves (segments ++ s ∷ []) n) (length (drop k more)) =
    let Q : ℕ → Type 0 = λ r. Ends_at r (length (drop k more)) in subst Q left in_rest in
    let At : List Step → List ℕ → Type 0 =
    λ ss m. GoesTo (In_body (body_of h p3 x ss m)) rest f in
    let one : At (segments ++ s ∷ t ∷ later) ((moved ++ take k more) ++ drop k more) =
    let Q : List ℕ → Type 0 = λ m. At (segments ++ s ∷ t ∷ later) m in
    subst Q (ap (λ m. moved ++ m) (sym (take-append-drop k more))
    ∙ sym (append_assoc moved (take k more) (drop k more))) to in
    let two : At ((segments ++ s ∷ []) ++ t ∷ later) ((moved ++ take k more) ++ drop k more) =
    let Q : List Step → Type 0 = λ ss. At ss ((moved ++ take k more) ++ drop k more) in
    subst Q (sym (append_assoc segments (s ∷ []) (t ∷ later))) one in
    let deeper = to_segments h p3 x (segments ++ s ∷ []) (t ∷ later) (moved ++ take k more)
    (drop k more) rest f moved_is in_left (λ invalid. (nulls invalid).1) two in
    let Left : ℕ → Type 0 =
    λ r. GoesTo (In_body (body_of h p3 x (segments ++ s ∷ []) (moved ++ take k more)))
    (segment_characters h.ins x (t ∷ later) r (drop k more) ++ rest) f in
    let All_of : List Character → Type 0 = λ cs. GoesTo (In_body (body_of h p3 x segments moved))
    ((Card, procedure_byte h.ins s) ∷ cs) f in
    subst All_of (sym (append_assoc (sent_by (data_sender x) (take k more))
    (segment_characters h.ins x (t ∷ later) ((n - done) - k) (drop k more)) rest))
    (to_segment (body_of h p3 x segments moved) s (take k more)
    (segment_characters h.ins x (t ∷ later) ((n - done) - k) (drop k more) ++ rest) f between
    (λ invalid. (nulls invalid).0) (omega (arith, taken)) (subst Left (sym left) deeper))

to_header : (done bytes : List ℕ) (rest : List Character) (f : Front)
    → length done + length bytes < 5 → GoesTo (In_header (done ++ bytes)) rest f
    → GoesTo (In_header done) (sent_by Terminal bytes ++ rest) f
to_header done [] rest f lt to =
    let P : List ℕ → Type 0 = λ m. GoesTo (In_header m) rest f in subst P (append-nil done) to
to_header done (y ∷ bytes) rest f lt to =
    let P : List ℕ → Type 0 = λ m. GoesTo (In_header m) rest f in (
      In_header (done ++ y ∷ []),
      (refl, inl (omega (arith, lt), refl)),
      to_header (done ++ y ∷ []) bytes rest f
          (omega (arith, lt, length-append done (y ∷ [])))
          (subst P (sym (append_assoc done (y ∷ []) bytes)) to),
    )

to_body : (b : Body) (rest : List Character) (f : Front) → IsBegun b → GoesTo (In_body b) rest f
    → GoesTo fresh (body_characters b ++ rest) f
to_body b rest f begun to =
    let h = b.header in
    let n = foreseen b.direction b.p3 in
    let same : n - 0 ≡ n = omega arith in
    let In_last : ℕ → Type 0 = λ r. EndInLast b.segments r (length b.moved) in
    let Rest : ℕ → Type 0 = λ r. GoesTo (In_body (header_only h b.p3 b.direction))
    (segment_characters h.ins b.direction b.segments r b.moved ++ rest) f in
    to_header [] (header_bytes h) ((Terminal, b.p3)
    ∷ (segment_characters h.ins b.direction b.segments n b.moved ++ rest)) f (lit< tt) (
      In_body (header_only h b.p3 b.direction),
      (refl, inr (h, b.direction, refl, refl)),
      subst Rest same (to_segments h b.p3 b.direction [] b.segments [] b.moved rest f refl
          (subst In_last (sym same) begun.in_last) begun.only_nulls to),
    )

pub reached : (front : Front) → IsFront front → GoesTo fresh (front_characters front) front
reached (In_header bytes) is =
    let P : List Character → Type 0 = λ cs. GoesTo fresh cs (In_header bytes) in
    subst P (append-nil (sent_by Terminal bytes))
    (to_header [] bytes [] (In_header bytes) (omega (arith, is)) refl)
reached (In_body b) is =
    let P : List Character → Type 0 = λ cs. GoesTo fresh cs (In_body b) in
    subst P (append-nil (body_characters b)) (to_body b [] (In_body b) is refl)
reached (After_first b sw1) is =
    to_body b ((Card, sw1) ∷ []) (After_first b sw1) is.0
    (After_first b sw1, inr (inr (is.1, refl, is.2, refl)), refl)

-- the data of a whole dialogue end inside its last segment
pub whole_in_last : (segments : List Step) (k n : ℕ) → n ≡ all_moves segments k
    → EndInLast segments k n
whole_in_last [] k n e = e
whole_in_last (s ∷ []) k n e = omega (arith, e)
whole_in_last (s ∷ t ∷ segments) k n e = (
  omega (arith, e),
  whole_in_last (t ∷ segments) (k - moves s k) (n - moves s k)
      (omega (arith, e)),
)

-- a whole dialogue except its SW2
pub whole_front : (d : Dialogue) → IsDialogue d → IsFront (After_first d.body d.status.0)
whole_front d is = (
  record {
    in_last = whole_in_last d.body.segments (foreseen d.body.direction d.body.p3)
        (length d.body.moved) is.moved_by_segments;
    only_nulls = is.only_nulls;
  },
  is.moved_by_segments,
  (is.is_status.0, lit< tt),
)

pub through : (cs rest : List Character) (front other : Front) (d : Dialogue)
    → GoesTo front cs other → GoesThrough other rest d → GoesThrough front (cs ++ rest) d
through [] rest front other d to on = let P : Front → Type 0 = λ f. GoesThrough f rest d in
    subst P (sym to) on
through (c ∷ cs) rest front other d to on =
    inr (to.0, to.1, through cs rest to.0 other d to.2 on)

pub goes_through : (d : Dialogue) → IsDialogue d → GoesThrough fresh (characters d) d
goes_through d is =
    let front = After_first d.body d.status.0 in
    let P : List Character → Type 0 = λ cs. GoesThrough fresh cs d in
    subst P (append_assoc (body_characters d.body) ((Card, d.status.0) ∷ [])
    ((Card, d.status.1) ∷ []))
    (through (front_characters front) ((Card, d.status.1) ∷ []) fresh front d
    (reached front (whole_front d is)) (inl ((refl, is.is_status.1, refl), refl)))
