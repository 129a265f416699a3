-- The places of an exchange: what follows a response, and what holds of each place.
use Rattle.std.proofs.Common.{◌≡◌, ℕ, ◌+◌, ◌-◌, ◌≤◌, min, List, [], ◌∷◌, ◌++◌, length, refl, sym, ◌∙◌, ap, arith, inl, inr, ◌⊎◌, true, false, not, ◌&&◌, ◌==◌, Bool, Option, Some, None, if◌then◌else◌, length-append, nat_le}
use Rattle.std.proofs.lemmas.Bool.{leb-true, le-leb}
use Rattle.apdu_core.specs.declared.header.Header.{Header}
use Rattle.apdu_core.specs.StatusWord.{StatusWord, announces, corrects}
use Rattle.apdu_core.specs.CommandBytes.{Command}
use Rattle.t0_core.specs.DialogueLaws.{flat_map_last}
use Rattle.object_card.specs.Agreed.{IsAgreed}
use Rattle.apdu_core.specs.Shared.{get_response}
use Rattle.exchange_core.specs.declared.wanted.Wanted.{Wanted}
use Rattle.exchange_core.specs.declared.wanted.Wanted.TheVariants.{Bytes, Everything}
use Rattle.exchange_core.specs.declared.attempt.Attempt.{Attempt}
use Rattle.exchange_core.specs.declared.attempt.Next.TheVariants as next_is
use Rattle.exchange_core.specs.Attempts.{again_with, next_by, repetition}
use Rattle.exchange_core.specs.Attempts as attempts
use Rattle.exchange_core.specs.Gathered.{less, smaller, wants_some, wants_at_least, wanted_by, fetched_of, fetched_after}
use Rattle.apdu_terminal.specs.Apdus.{Pair, Place, command_at, first_place, asking, asked, leads, is_case_2, may_bring, Goes, Ends, follow, Suits, GoesThrough, all_content, Brings, IsTooLong}
use Rattle.apdu_terminal.specs.CardApdu.{tpdu_command, le_of}

-- the command again, with the count `n`, after `came` bytes
abbrev pub repeated : Place → ℕ → ℕ → Place
repeated at came n = asked at came (repetition at.attempt) n

-- or a GET RESPONSE for `n` bytes
abbrev pub fetched : Place → ℕ → ℕ → Place
fetched at came n = asked at came (attempts.fetch at.attempt (at.gathered + came)) n

-- a fetch has brought nothing
abbrev pub brought_none : Place → ℕ → Bool
brought_none at came = at.attempt.fetches && (at.gathered + came == at.attempt.before)

-- the next place: the command again, or a GET RESPONSE
pub data Comes (at : Place) (came : ℕ) (status : StatusWord) (next : Place) : Type 0 where
  again : (n : ℕ) → (at.attempt.asks && not at.attempt.repeats) ≡ true
      → wants_at_least n (less at.left came) ≡ true → corrects status ≡ Some n
      → next ≡ repeated at came n → Comes at came status next
  fetch : (n : ℕ) → fetched_after (less at.left came) status ≡ Some n
      → brought_none at came ≡ false → next ≡ fetched at came n → Comes at came status next

is_correction : (a : Attempt) (left : Wanted) (corrected : Option ℕ) (n : ℕ)
    → again_with a left corrected ≡ Some n → ((a.asks && not a.repeats) ≡ true)
    × (wants_at_least n left ≡ true) × (corrected ≡ Some n)
is_correction a left None n is = absurd (cc)
is_correction a left (Some k) n is = by a.asks a.repeats (wants_at_least k left) refl is
  where
    by : (asks repeats v : Bool) → wants_at_least k left ≡ v
        → (if asks && not repeats && v then Some k else None) ≡ Some n
        → ((asks && not repeats) ≡ true) × (wants_at_least n left ≡ true) × (Some k ≡ Some n)
    by true false true e is =
        let same : k ≡ n = cc in (refl, rw same at e, is)
    by true false false e is = absurd (cc)
    by true true v e is = absurd (cc)
    by false repeats v e is = absurd (cc)

pub comes : (at next : Place) (came : ℕ) (status : StatusWord) → follow at came status ≡ Goes next
    → Comes at came status next
comes at next came status goes =
    by (again_with at.attempt (less at.left came) (corrects status))
    (fetched_after (less at.left came) status) refl refl goes
  where
    by_fetch : (v : Bool) (n : ℕ) → brought_none at came ≡ v
        → fetched_after (less at.left came) status ≡ Some n
        → leads at came (if v then next_is.Stalls
        else next_is.Asks (attempts.fetch at.attempt (at.gathered + came)) n) ≡ Goes next
        → Comes at came status next
    by_fetch true n e told is = absurd (cc)
    by_fetch false n e told is =
        let same : fetched at came n ≡ next = cc in fetch n told e (sym same)

    by : (once announced : Option ℕ)
        → again_with at.attempt (less at.left came) (corrects status) ≡ once
        → fetched_after (less at.left came) status ≡ announced
        → leads at came (next_by at.attempt (at.gathered + came) once announced) ≡ Goes next
        → Comes at came status next
    by (Some n) announced told is e =
        let (may, wants, corrected) =
        is_correction at.attempt (less at.left came) (corrects status) n told in
        let same : repeated at came n ≡ next = cc in again n may wants corrected (sym same)
    by None None told is e = absurd (cc)
    by None (Some n) told is e = by_fetch (brought_none at came) n refl is e

-- a whole exchange from a place on, with its status
pub data Whole : Place → List Pair → StatusWord → Type 0 where
  at_end : (at : Place) (p : Pair) → Suits at p
      → follow at (length p.content) p.status ≡ Ends → Whole at (p ∷ []) p.status
  further : (at next : Place) (p : Pair) (pairs : List Pair) (status : StatusWord) → Suits at p
      → follow at (length p.content) p.status ≡ Goes next → Whole next pairs status
      → Whole at (p ∷ pairs) status

whole_of : (at : Place) (before : List Pair) (mid : Place) (last : Pair) → GoesThrough at before mid
    → Suits mid last → follow mid (length last.content) last.status ≡ Ends
    → Whole at (before ++ last ∷ []) last.status
whole_of at [] mid last through suits ends =
    rw through at (at_end mid last suits ends)
whole_of at (p ∷ before) mid last (next, is, follows, rest) suits ends =
    further at next p (before ++ last ∷ []) last.status is follows
    (whole_of next before mid last rest suits ends)

pub brings_whole : (c : Command) (wanted : Wanted) (pairs : List Pair) (gathered : List ℕ)
    (status : StatusWord) → Brings c wanted pairs gathered status
    → Whole (first_place c wanted) pairs status
brings_whole c wanted pairs gathered status b =
    rw (b.pairs_are, b.status_is)
    (whole_of (first_place c wanted) b.before b.at b.last b.through b.suits b.ends)

-- What each response keeps holds after all pairs.
pub through : (P : ℕ → Place → Type 0)
    → ((at next : Place) (total came : ℕ) (status : StatusWord) → P total at
    → came ≤ may_bring at.le → Comes at came status next → P (total + came) next)
    → (at last : Place) (total : ℕ) (pairs : List Pair) → P total at → GoesThrough at pairs last
    → P (total + length (all_content pairs)) last
through P step at last total [] holds is =
    let none : total ≡ total + 0 = omega arith in
    rw is (rw none at holds)
through P step at last total (p ∷ pairs) holds (next, suits, goes, rest) =
    let came : ℕ = length p.content in
    let all : (total + came) + length (all_content pairs)
    ≡ total + length (all_content (p ∷ pairs)) =
    omega (arith, length-append p.content (all_content pairs)) in
    rw all at (through P step next last (total + came) pairs
    (step at next total came p.status holds suits.asked_for
    (comes at next came p.status goes)) rest)

-- ---- how much may come

-- No more comes than was wanted.
pub record Fits (most total : ℕ) (at : Place) : Type 0 where
  pub left : ℕ
  pub left_is : at.left ≡ Bytes left
  pub asks : may_bring at.le ≤ left
  pub within : total + left ≤ most

pub fits_first : (c : Command)
    → Fits (may_bring c.le) 0 (first_place (tpdu_command c) (le_of c))
fits_first c = record {
  left = may_bring c.le;
  left_is = refl;
  asks = by c.content;
  within = omega arith;
}
  where
    by : (content : List ℕ) → may_bring (tpdu_command
        (record { header = c.header; content = content; le = c.le })).le ≤ may_bring c.le
    by [] = omega arith
    by (b ∷ bs) = omega arith

least : (v : Option ℕ) (k n : ℕ) → fetched_of (Bytes k) v ≡ Some n → (1 ≤ k) × (n ≤ k)
least None k n is = absurd (cc)
least (Some m) k n is = by (nat_le 1 k) refl is
  where
    by : (v : Bool) → nat_le 1 k ≡ v → (if v then Some (min m k) else None) ≡ Some n
        → (1 ≤ k) × (n ≤ k)
    by true e is = let same : min m k ≡ n = cc in (leb-true 1 k e, omega (arith, same))
    by false e is = absurd (cc)

pub fits_on : (most : ℕ) (at next : Place) (total came : ℕ) (status : StatusWord)
    → Fits most total at → came ≤ may_bring at.le → Comes at came status next
    → Fits most (total + came) next
fits_on most at next total came status fits few (again n may wants told is) =
    let left : less at.left came ≡ Bytes (fits.left - came) =
    ap (λ w. less w came) fits.left_is in
    record {
      left = fits.left - came;
      left_is = ap (λ (x : Place). x.left) is ∙ left;
      asks = rw is (leb-true n (fits.left - came) (sym (ap (wants_at_least n) left) ∙ wants));
      within = omega (arith, fits.within, few, fits.asks);
    }
fits_on most at next total came status fits few (fetch n told some is) =
    let left : less at.left came ≡ Bytes (fits.left - came) =
    ap (λ w. less w came) fits.left_is in
    let of_left = least (announces status) (fits.left - came) n
    (sym (ap (λ w. fetched_after w status) left) ∙ told) in
    record {
      left = fits.left - came;
      left_is = ap (λ (x : Place). x.left) is ∙ left;
      asks = rw is of_left.1;
      within = omega (arith, fits.within, few, fits.asks);
    }

-- so the data are no more than Le asks for
pub total_within : (c : Command) (before : List Pair) (last : Pair) (at : Place)
    → GoesThrough (first_place (tpdu_command c) (le_of c)) before at → Suits at last
    → length (all_content (before ++ last ∷ [])) ≤ may_bring c.le
total_within c before last at way suits =
    let f = through (Fits (may_bring c.le)) (fits_on (may_bring c.le))
    (first_place (tpdu_command c) (le_of c)) at 0 before (fits_first c) way in
    omega (
      arith,
      ap length (flat_map_last (λ (q : Pair). q.content) before last),
      length-append (all_content before) last.content,
      f.within,
      f.asks,
      suits.asked_for,
    )

pub never_too_long : (c : Command) (pairs : List Pair) (limit : ℕ) → may_bring c.le ≤ limit
    → IsTooLong (tpdu_command c) (le_of c) pairs limit → ⊥
never_too_long c pairs limit room long =
    omega (
      arith,
      long.long,
      ap (λ ps. length (all_content ps)) long.pairs_are,
      total_within c long.before long.last long.at long.through long.suits,
      room,
    )

-- ---- which commands come

-- a command can be sent as a TPDU: it is of case 1, 2 or 3
abbrev pub GoesAlone : ℕ → Place → Type 0
GoesAlone total at = (at.content ≡ []) ⊎ (at.le ≡ None)

pub alone_first : (c : Command) → GoesAlone 0 (first_place (tpdu_command c) (le_of c))
alone_first c = by c.content
  where
    by : (content : List ℕ) → GoesAlone 0 (first_place (tpdu_command
        (record { header = c.header; content = content; le = c.le })) (le_of c))
    by [] = inl refl
    by (b ∷ bs) = inr refl

pub alone_on : (at next : Place) (total came : ℕ) (status : StatusWord) → GoesAlone total at
    → came ≤ may_bring at.le → Comes at came status next → GoesAlone (total + came) next
alone_on at next total came status alone few (again n may wants told is) =
    inl (ap (λ (x : Place). x.content) is)
alone_on at next total came status alone few (fetch n told some is) =
    inl (ap (λ (x : Place). x.content) is)

-- it is agreed with the card, and so is a GET RESPONSE while something is wanted
pub record Agrees (R S : Header → Type 0) (total : ℕ) (at : Place) : Type 0 where
  pub agreed : IsAgreed R S (command_at at)
  pub asks : at.attempt.asks ≡ is_case_2 at.content at.le
  pub later : wants_some at.left ≡ true → R get_response → ⊥

none_later : (R S : Header → Type 0) (c : Command) (n : ℕ) → c.le ≡ Some n → IsAgreed R S c
    → R get_response → ⊥
none_later R S c n le agreed =
    by c.content c.le le agreed
  where
    by : (content : List ℕ) (le : Option ℕ) → le ≡ Some n
        → IsAgreed R S (record { header = c.header; content = content; le = le })
        → R get_response → ⊥
    by content None is agreed = absurd (cc)
    by [] (Some k) is agreed = agreed.1
    by (b ∷ bs) (Some k) is agreed = agreed.1

-- at the terminal
pub agrees_first : (R S : Header → Type 0) (c : Command) → IsAgreed R S c
    → Agrees R S 0 (first_place c (wanted_by c.le))
agrees_first R S c agreed = record { agreed = agreed; asks = refl; later = by c.le refl }
  where
    by : (le : Option ℕ) → c.le ≡ le → wants_some (wanted_by le) ≡ true → R get_response → ⊥
    by None is wants = absurd (cc)
    by (Some n) is wants = none_later R S c n is agreed

-- at the card
pub agrees_as_tpdu : (R S : Header → Type 0) (c : Command) → IsAgreed R S c
    → Agrees R S 0 (first_place (tpdu_command c) (le_of c))
agrees_as_tpdu R S c agreed = record {
  agreed = by c.content c.le agreed;
  asks = refl;
  later = later c.le refl;
}
  where
    by : (content : List ℕ) (le : Option ℕ)
        → IsAgreed R S (record { header = c.header; content = content; le = le })
        → IsAgreed R S (tpdu_command (record { header = c.header; content = content; le = le }))
    by [] None agreed = agreed
    by [] (Some n) agreed = agreed
    by (b ∷ bs) None agreed = agreed
    by (b ∷ bs) (Some n) agreed = agreed.0

    later : (le : Option ℕ) → c.le ≡ le → wants_some (Bytes (may_bring le)) ≡ true
        → R get_response → ⊥
    later None is wants = absurd (cc)
    later (Some n) is wants = none_later R S c n is agreed

wanted_before : (left : Wanted) (came : ℕ) → wants_some (less left came) ≡ true
    → wants_some left ≡ true
wanted_before (Bytes n) came is = le-leb 1 n (omega (arith, leb-true 1 (n - came) is))
wanted_before Everything came is = refl

of_case_2 : (R S : Header → Type 0) (c : Command) (n : ℕ) → is_case_2 c.content c.le ≡ true
    → IsAgreed R S c → IsAgreed R S (asking c.header n)
of_case_2 R S c n is agreed = by c.content c.le is agreed
  where
    by : (content : List ℕ) (le : Option ℕ) → is_case_2 content le ≡ true
        → IsAgreed R S (record { header = c.header; content = content; le = le })
        → IsAgreed R S (asking c.header n)
    by [] None is agreed = absurd (cc)
    by [] (Some k) is agreed = agreed
    by (b ∷ bs) le is agreed = absurd (cc)

first_true : (a b : Bool) → (a && b) ≡ true → a ≡ true
first_true true b is = refl
first_true false b is = absurd (cc)

was_wanted : (left : Wanted) (v : Option ℕ) (n : ℕ) → fetched_of left v ≡ Some n
    → wants_some left ≡ true
was_wanted left None n is = absurd (cc)
was_wanted left (Some m) n is = by (wants_some left) is
  where
    by : (v : Bool) → (if v then Some (smaller m left) else None) ≡ Some n → v ≡ true
    by true is = refl
    by false is = absurd (cc)

pub agrees_on : (R S : Header → Type 0) (at next : Place) (total came : ℕ) (status : StatusWord)
    → Agrees R S total at → came ≤ may_bring at.le → Comes at came status next
    → Agrees R S (total + came) next
agrees_on R S at next total came status agrees few (again n may wants told is) = record {
  agreed = rw is (of_case_2 R S (command_at at) n
      (sym agrees.asks ∙ first_true at.attempt.asks (not at.attempt.repeats) may) agrees.agreed);
  asks = rw is (first_true at.attempt.asks (not at.attempt.repeats) may);
  later = λ some. agrees.later (wanted_before at.left came
      (ap (λ (x : Place). wants_some x.left) (sym is) ∙ some));
}
agrees_on R S at next total came status agrees few (fetch n told some is) =
    let none : R get_response → ⊥ =
    agrees.later (wanted_before at.left came
    (was_wanted (less at.left came) (announces status) n told)) in
    record {
      agreed = rw is (none, none);
      asks = rw is refl;
      later = λ wants. none;
    }
