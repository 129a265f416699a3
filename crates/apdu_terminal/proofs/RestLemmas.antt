-- GET RESPONSE reads the rest of a response of a card of data objects, whether a reader fetches it
-- or the terminal.
use Rattle.std.proofs.Common.{◌≡◌, ℕ, ◌+◌, ◌%◌, ◌≤◌, min, List, [], ◌∷◌, ◌++◌, length, take, drop, refl, sym, ◌∙◌, ap, arith, true, false, ◌==◌, Bool, Option, Some, None, append-nil, append_assoc, length-append, length-drop, if◌then◌else◌}
use Rattle.std.specs.Prelude.{nat_le}
use Rattle.std.proofs.lemmas.Bool.{eqb-true, eqb-false, leb-true}
use Rattle.std.proofs.lemmas.List.{take-append-drop}
use Rattle.apdu_core.specs.StatusWord.{StatusWord, count, announces, corrects}
use Rattle.apdu_core.specs.CommandBytes.{Command}
use Rattle.t0_core.specs.Plan.{IsCut}
use Rattle.object_card.specs.State.{CardState, is_idle, waiting}
use Rattle.object_card.specs.OneStep.{SameTables}
use Rattle.object_card.specs.CardMeaning.{Does, announcing}
use Rattle.apdu_core.specs.Shared.{get_response}
use Rattle.object_card.specs.OperationLaws.{no_correction}
use Rattle.object_card.specs.ResponseLaws.{announces_some, count_is_some, fetched, rest_waits, rest_is_idle}
use Rattle.exchange_core.specs.declared.wanted.Wanted.{Wanted}
use Rattle.exchange_core.specs.declared.wanted.Wanted.TheVariants.{Bytes, Everything}
use Rattle.exchange_core.specs.declared.attempt.Next.TheVariants as next_is
use Rattle.exchange_core.specs.Attempts.{again_with, next_by}
use Rattle.exchange_core.specs.Attempts as attempts
use Rattle.exchange_core.specs.Gathered.{less, smaller, wants_some, fetched_of, fetched_after}
use Rattle.apdu_terminal.specs.Apdus.{Pair, Place, command_at, first_place, asking, leads, Goes, Ends, follow, all_content}
use Rattle.apdu_terminal.proofs.PlaceLemmas.{Whole, at_end, further, brings_whole, brought_none, Comes, again, fetch, comes}
use Rattle.apdu_terminal.specs.CardApdu.{p3_of, InTurn, GoesAs, Responds, tpdu_command}

-- ---- after a status that is not 6CXX

-- more is fetched
pub record IsFetchOf (at : Place) (came : ℕ) (status : StatusWord) (next : Place) : Type 0 where
  pub n : ℕ
  pub told : fetched_after (less at.left came) status ≡ Some n
  pub due_is : command_at next ≡ asking get_response n
  pub left : next.left ≡ less at.left came

pub goes_by_fetch : (at next : Place) (came : ℕ) (status : StatusWord) → corrects status ≡ None
    → follow at came status ≡ Goes next → IsFetchOf at came status next
goes_by_fetch at next came status none goes = by (comes at next came status goes)
  where
    by : Comes at came status next → IsFetchOf at came status next
    by (again n may wants told is) = let no : None ≡ Some n = sym none ∙ told in absurd (cc)
    by (fetch n told some is) = record {
      n = n;
      told = told;
      due_is = ap (λ (x : Place). command_at x) is;
      left = ap (λ (x : Place). x.left) is;
    }

-- no more is
pub ends_without_fetch : (at : Place) (came : ℕ) (status : StatusWord)
    → follow at came status ≡ Ends → fetched_after (less at.left came) status ≡ None
ends_without_fetch at came status ends =
    by (again_with at.attempt (less at.left came) (corrects status))
    (fetched_after (less at.left came) status) refl ends
  where
    by_fetch : (v : Bool) (n : ℕ) → leads at came (if v then next_is.Stalls
        else next_is.Asks (attempts.fetch at.attempt (at.gathered + came)) n) ≡ Ends → ⊥
    by_fetch true n e = absurd (cc)
    by_fetch false n e = absurd (cc)

    by : (again announced : Option ℕ) → fetched_after (less at.left came) status ≡ announced
        → leads at came (next_by at.attempt (at.gathered + came) again announced) ≡ Ends
        → fetched_after (less at.left came) status ≡ None
    by (Some k) announced is e = absurd (cc)
    by None None is e = is
    by None (Some n) is e = absurd (by_fetch (brought_none at came) n e)

-- a fetch is of at least one byte, and no more than announced
pub told_by : (left : Wanted) (status : StatusWord) (n : ℕ) → fetched_after left status ≡ Some n
    → (m : ℕ) × (announces status ≡ Some m) × (n ≤ m) × (1 ≤ m → 1 ≤ n)
told_by left status n is = by (announces status) refl is
  where
    of_some : (left : Wanted) (m : ℕ) → (if wants_some left then Some (smaller m left) else None)
        ≡ Some n → (n ≤ m) × (1 ≤ m → 1 ≤ n)
    of_some Everything m is =
        let same : m ≡ n = cc in (omega (arith, same), λ some. omega (arith, same, some))
    of_some (Bytes k) m is = of_bytes (nat_le 1 k) refl is
      where
        of_bytes : (v : Bool) → nat_le 1 k ≡ v → (if v then Some (min m k) else None) ≡ Some n
            → (n ≤ m) × (1 ≤ m → 1 ≤ n)
        of_bytes true e is =
            let same : min m k ≡ n = cc in
            (omega (arith, same), λ some. omega (arith, same, some, leb-true 1 k e))
        of_bytes false e is = absurd (cc)

    by : (v : Option ℕ) → announces status ≡ v → fetched_of left v ≡ Some n
        → (m : ℕ) × (announces status ≡ Some m) × (n ≤ m) × (1 ≤ m → 1 ≤ n)
    by None told is = absurd (cc)
    by (Some m) told is = let few = of_some left m is in (m, told, few.0, few.1)

-- a count of 1 to 256, in one byte
pub count_told : (n : ℕ) → 1 ≤ n → n ≤ 256 → count (n % 256) ≡ n
count_told n low high = split (n % 256 == 0) refl
  where
    split : (v : Bool) → (n % 256 == 0) ≡ v → (if v then 256 else n % 256) ≡ n
    split true e = omega (arith, low, high, eqb-true (n % 256) 0 e)
    split false e = omega (arith, low, high, eqb-false (n % 256) 0 e)

counts_no_more : (n : ℕ) → 1 ≤ n → count (n % 256) ≤ n
counts_no_more n low = split (n % 256 == 0) refl
  where
    split : (v : Bool) → (n % 256 == 0) ≡ v → (if v then 256 else n % 256) ≤ n
    split true e = omega (arith, low, eqb-true (n % 256) 0 e)
    split false e = omega arith

-- ---- what is left of a response

-- These bytes are the first of those that wait. The rest then waits, and the status announces it.
pub record Reads (old new : CardState) (content : List ℕ) (status : StatusWord) : Type 0 where
  pub whole : content ++ waiting new.pending ≡ waiting old.pending
  pub some : 1 ≤ length content
  pub status_is : status ≡ announcing (waiting new.pending) 256
  pub same : SameTables old new
  pub idle : is_idle new.pending ≡ true

pub in_range : IsCut 256
in_range = (omega arith, omega arith)

-- what is announced waits
pub waits_for : (rest : List ℕ) (left : Wanted) (n : ℕ)
    → fetched_after left (announcing rest 256) ≡ Some n
    → (1 ≤ n) × (n ≤ length rest)
waits_for rest left n told =
    let (m, announced, few, some) = told_by left (announcing rest 256) n told in
    let waits = announces_some rest 256 m in_range announced in
    (some waits.0, omega (arith, few, waits.1))

-- a GET RESPONSE for some of what waits reads it
abbrev pub Reading : (CardState → Pair → CardState → Type 0) → Type 0
Reading One = (k : ℕ) (p : Pair) (old new : CardState) → 1 ≤ k
    → k ≤ length (waiting old.pending) → p.command ≡ asking get_response k → One old p new
    → Reads old new p.content p.status

-- as a TPDU
pub one_read : Reading (GoesAs Does)
one_read k p old new low few due (t, is, does) =
    let rest : List ℕ = waiting old.pending in
    let p3 : t.p3 ≡ k % 256 = is.p3_is ∙ ap (λ (c : Command). p3_of c.content c.le) due in
    let within : count t.p3 ≤ length rest =
    omega (arith, ap count p3, counts_no_more k low, few) in
    let f = fetched old new 256 t does (is.header_is ∙ ap (λ c. c.header) due) within in
    let waits : waiting new.pending ≡ drop (count t.p3) rest =
    ap waiting f.left ∙ rest_waits (drop (count t.p3) rest) in
    let whole : p.content ++ waiting new.pending ≡ rest =
    ap (λ bs. bs ++ waiting new.pending) (sym is.received_is ∙ f.brought)
    ∙ ap (λ bs. take (count t.p3) rest ++ bs) waits ∙ take-append-drop (count t.p3) rest in
    record {
      whole = whole;
      some = omega (
        arith,
        ap length whole,
        length-append p.content (waiting new.pending),
        ap length waits,
        length-drop (count t.p3) rest,
        count_is_some t.p3,
        within,
      );
      status_is = sym is.status_is ∙ f.status_is ∙ ap (λ bs. announcing bs 256) (sym waits);
      same = (sym f.same_applications, sym f.same_selected);
      idle = ap is_idle f.left ∙ rest_is_idle (drop (count t.p3) rest);
    }

-- then another
both_read : (old mid new : CardState) (first second : List ℕ) (told status : StatusWord)
    → Reads old mid first told → Reads mid new second status
    → Reads old new (first ++ second) status
both_read old mid new first second told status a b = record {
  whole = append_assoc first second (waiting new.pending) ∙ ap (λ bs. first ++ bs) b.whole
      ∙ a.whole;
  some = omega (arith, length-append first second, a.some);
  status_is = b.status_is;
  same = (a.same.0 ∙ b.same.0, a.same.1 ∙ b.same.1);
  idle = b.idle;
}

pub told_none : (old new : CardState) (content : List ℕ) (status : StatusWord)
    → Reads old new content status → corrects status ≡ None
told_none old new content status r =
    ap corrects r.status_is ∙ no_correction (waiting new.pending) 256

-- what is fetched next waits
next_waits : (old new : CardState) (content : List ℕ) (status : StatusWord) (left : Wanted) (n : ℕ)
    → Reads old new content status → fetched_after left status ≡ Some n
    → (1 ≤ n) × (n ≤ length (waiting new.pending))
next_waits old new content status left n r told =
    waits_for (waiting new.pending) left n
    (ap (λ s. fetched_after left s) (sym r.status_is) ∙ told)

-- it, and what is fetched after it
pub all_read : (One : CardState → Pair → CardState → Type 0) → Reading One → (at : Place)
    (pairs : List Pair) (status : StatusWord) (k : ℕ) (old new : CardState) → Whole at pairs status
    → command_at at ≡ asking get_response k → 1 ≤ k → k ≤ length (waiting old.pending)
    → InTurn One old pairs new → Reads old new (all_content pairs) status
all_read One reading at pairs status k old new (at_end here p suits ends) is_due low few
    (mid, goes, stays) =
    rw (append-nil p.content, stays) (reading k p old mid low few (suits.is_due ∙ is_due) goes)
all_read One reading at pairs status k old new (further here next p others last suits goes whole)
    is_due low few (mid, is, rest) =
    let r = reading k p old mid low few (suits.is_due ∙ is_due) is in
    let f = goes_by_fetch at next (length p.content) p.status
    (told_none old mid p.content p.status r) goes in
    let w = next_waits old mid p.content p.status (less at.left (length p.content)) f.n r f.told in
    both_read old mid new p.content (all_content others) p.status status r
    (all_read One reading next others status f.n mid new whole f.due_is w.0 w.1 rest)

-- as a whole command
pub one_response : Reading (Responds Does)
one_response k p old new low few due (inner, brings, goes) =
    rw brings.gathered_is
    (all_read (GoesAs Does) one_read (first_place (tpdu_command p.command) (Bytes _)) inner p.status
    k old new (brings_whole _ _ inner p.content p.status brings) (ap tpdu_command due) low few
    goes)

pub none_announced : (rest : List ℕ)
    → fetched_after Everything (announcing rest 256) ≡ None → rest ≡ []
none_announced [] e = refl
none_announced (b ∷ rest) e = absurd (cc)

-- if everything is wanted, the exchange ends only if nothing is announced
pub ends_told : (at : Place) (pairs : List Pair) (status : StatusWord) → Whole at pairs status
    → at.left ≡ Everything → fetched_after Everything status ≡ None
ends_told at pairs status (at_end here p suits ends) left =
    ap (λ w. fetched_after (less w (length p.content)) p.status) (sym left)
    ∙ ends_without_fetch at (length p.content) p.status ends
ends_told at pairs status (further here next p others last suits goes whole) left =
    ends_told next others status whole (by (comes at next (length p.content) p.status goes))
  where
    still : less at.left (length p.content) ≡ Everything
    still = ap (λ w. less w (length p.content)) left

    by : Comes at (length p.content) p.status next → next.left ≡ Everything
    by (again n may wants told is) = ap (λ (x : Place). x.left) is ∙ still
    by (fetch n told some is) = ap (λ (x : Place). x.left) is ∙ still
