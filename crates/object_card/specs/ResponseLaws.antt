-- What a card announces waits, and a fetch brings it.
use Rattle.std.proofs.Common.{◌≡◌, ℕ, suc, ◌+◌, ◌%◌, ◌≤◌, min, List, [], ◌∷◌, length, take, drop, Some, None, Bool, true, false, refl, sym, ap, subst, ◌∙◌, arith, length-take, length-drop}
use Rattle.std.specs.Prelude.{if◌then◌else◌, ◌==◌, ◌||◌, nat_lt}
use Rattle.std.proofs.lemmas.Bool.{eqb-true, eqb-false, ne_eqb, le-ltb}
use Rattle.apdu_core.specs.declared.header.Header.{Header}
use Rattle.apdu_core.specs.StatusWord.{StatusWord, ok, count, announces, corrects}
use Rattle.t0_core.specs.Plan.{IsCut}
use Rattle.t0_core.specs.Meaning.{Tpdu}
use Rattle.object_card.specs.declared.limits.TheConstants.{VALUE_LIMIT, HEAD_LIMIT}
use Rattle.object_card.specs.State.{CardState, IsCardState, Pending, ResponsePending, is_idle, waiting, pending_of}
use Rattle.apdu_core.specs.Shared.{Reply}
use Rattle.object_card.specs.OneStep.{Operation, Put, Answers, does_not_store, PutStatus, not_allowed, control_information}
use Rattle.object_card.specs.Refusals.{is_get, is_get_response, refusal, to_send}
use Rattle.object_card.specs.CardMeaning.{Does, refuses, selects_application, misses_application, sends, chains, puts_value, after_refusal, announcing}
use Rattle.apdu_core.specs.Shared.{get_response}
use Rattle.object_card.specs.CarryingOut.{IsFetched}
use Rattle.object_card.specs.StepLaws.{send_step, send_refused, is_sent}
use Rattle.object_card.specs.RefusalLaws.{is_refusing, after_refusal_holds}
use Rattle.object_card.specs.StateLaws.{stays_sound, waiting_length, to_send_length}

-- a length of 1 to 256, encoded in a byte
count_told : (n : ℕ) → 1 ≤ n → n ≤ 256 → count (n % 256) ≡ n
count_told n low high = split (n % 256 == 0) refl
  where
    split : (v : Bool) → (n % 256 == 0) ≡ v → (if v then 256 else n % 256) ≡ n
    split true e = omega (arith, low, high, eqb-true (n % 256) 0 e)
    split false e = omega (arith, low, high, eqb-false (n % 256) 0 e)

-- The announced length is the smaller of the cut and the number of bytes left.
pub announced_count : (left : List ℕ) (cut n : ℕ) → IsCut cut
    → announces (announcing left cut) ≡ Some n → n ≡ min (length left) cut
announced_count [] cut n is announced = absurd (cc)
announced_count (b ∷ left) cut n is announced =
    let told : Some (count (min (suc (length left)) cut % 256)) ≡ Some n = announced in
    let same : count (min (suc (length left)) cut % 256) ≡ n = cc in
    sym same ∙ count_told (min (suc (length left)) cut) (omega (arith, is.0)) (omega (arith, is.1))

pub announces_some : (left : List ℕ) (cut n : ℕ) → IsCut cut
    → announces (announcing left cut) ≡ Some n → (1 ≤ n) × (n ≤ length left)
announces_some [] cut n is announced = absurd (cc)
announces_some (b ∷ left) cut n is announced =
    let told = announced_count (b ∷ left) cut n is announced in
    (omega (arith, told, is.0), omega (arith, told))

-- neither 61XX nor 6CXX
record TellsNoCount (status : StatusWord) : Type 0 where
  no_more : (status.0 == 0x61) ≡ false
  no_correction : (status.0 == 0x6C) ≡ false

put_tells_no_count : (entries : _) (tag value : List ℕ) (status : StatusWord)
    → PutStatus entries tag value status → TellsNoCount status
put_tells_no_count entries tag value status (not_allowed locked) =
    record { no_more = refl; no_correction = refl }
put_tells_no_count _ _ _ _ _ = record { no_more = refl; no_correction = refl }

answer_tells_no_count : (old new : CardState) (operation : Operation) (answer : Reply)
    → Answers old operation answer new → TellsNoCount answer.status
answer_tells_no_count old new operation answer
    (does_not_store tag value entries status is other put) =
    put_tells_no_count entries tag value status put
answer_tells_no_count _ _ _ _ _ = record { no_more = refl; no_correction = refl }

no_announcement : (status : StatusWord) (n : ℕ) → (status.0 == 0x61) ≡ false
    → announces status ≡ Some n → ⊥
no_announcement status n other announced =
    let no : None ≡ Some n =
    subst (λ b. (if b then Some (count status.1) else None) ≡ Some n) other announced in
    absurd (cc)

pub rest_waits : (left : List ℕ) → waiting (pending_of left) ≡ left
rest_waits [] = refl
rest_waits (b ∷ left) = refl

-- No chain is pending if a response may wait.
pub rest_is_idle : (left : List ℕ) → is_idle (pending_of left) ≡ true
rest_is_idle [] = refl
rest_is_idle (b ∷ left) = refl

-- What is announced waits.
pub what_is_announced_waits : (old new : CardState) (cut n : ℕ) (t : Tpdu) → Does old cut t new
    → IsCut cut → announces t.status ≡ Some n
    → (1 ≤ n) × (n ≤ length (waiting new.pending))
what_is_announced_waits old new cut n t (refuses h p3 status e) is announced =
    absurd (no_announcement status n (is_refusing old h p3 status e).not_more announced)
what_is_announced_waits old new cut n t (selects_application h aid e ins held) is announced =
    announces_some (control_information aid) cut n is announced
what_is_announced_waits old new cut n t (misses_application h aid e ins none) is announced =
    absurd (no_announcement (0x6A, 0x82) n refl announced)
what_is_announced_waits old new cut n t (sends h p3 e ins) is announced =
    let left : List ℕ = drop (count p3) (to_send old h) in
    subst (λ w. (1 ≤ n) × (n ≤ length w)) (sym (rest_waits left))
    (announces_some left cut n is announced)
what_is_announced_waits old new cut n t (chains h bytes e ins cla) is announced =
    absurd (no_announcement ok n refl announced)
what_is_announced_waits old new cut n t (puts_value h bytes tag answer next e ins cla named put) is
    announced =
    absurd (no_announcement answer.status n
    (answer_tells_no_count old next (Put tag _) answer put).no_more announced)

-- No TPDU brings data with a 6CXX.
pub corrected_brings_none : (old new : CardState) (cut n : ℕ) (t : Tpdu) → Does old cut t new
    → corrects t.status ≡ Some n → t.received ≡ []
corrected_brings_none old new cut n t (sends h p3 e ins) corrected =
    absurd (no_correction (drop (count p3) (to_send old h)) corrected)
  where
    no_correction : (left : List ℕ) → corrects (announcing left cut) ≡ Some n → ⊥
    no_correction [] is = absurd (cc)
    no_correction (b ∷ left) is = absurd (cc)
corrected_brings_none _ _ _ _ _ _ _ = refl

taken_and_left : (n : ℕ) (whole : List ℕ)
    → length (take n whole) + length (waiting (pending_of (drop n whole))) ≡ length whole
taken_and_left n whole =
    rw (rest_waits (drop n whole)) (omega (arith, length-take n whole, length-drop n whole))

-- The bytes that a TPDU brings, and those that wait afterwards, are at most a value with its tag
-- and length.
pub brings_within : (old new : CardState) (cut : ℕ) (t : Tpdu) → Does old cut t new
    → IsCardState old
    → length t.received + length (waiting new.pending) ≤ VALUE_LIMIT + HEAD_LIMIT
brings_within old new cut t does is =
    each old new cut t does is
    (waiting_length new.selected new.pending (stays_sound old new cut t does is).is_pending)
  where
    each : (old new : CardState) (cut : ℕ) (t : Tpdu) → Does old cut t new → IsCardState old
        → length (waiting new.pending) ≤ VALUE_LIMIT + HEAD_LIMIT
        → length t.received + length (waiting new.pending) ≤ VALUE_LIMIT + HEAD_LIMIT
    each old new cut t (sends h p3 e ins) is within =
        omega (arith, taken_and_left (count p3) (to_send old h), to_send_length old h is)
    each old new cut t _ is within = omega (arith, within)

-- a GET RESPONSE for no more than what waits is not refused
fetch_is_taken : (state : CardState) (p3 : ℕ) → 1 ≤ length (waiting state.pending)
    → count p3 ≤ length (waiting state.pending) → refusal state get_response p3 ≡ None
fetch_is_taken state p3 some few = split state.pending refl
  where
    split : (v : Pending) → state.pending ≡ v → refusal state get_response p3 ≡ None
    split (ResponsePending left) e =
        let is_there : (length (waiting state.pending) == 0) ≡ false =
        ne_eqb (length (waiting state.pending)) 0 (λ none. omega (arith, none, some)) in
        let fits : nat_lt (length (waiting state.pending)) (count p3) ≡ false =
        le-ltb (length (waiting state.pending)) (count p3) few in
        rw (is_there, fits, e) refl
    split _ e = absurd (omega (arith, some, ap (λ p. length (waiting p)) e))

pub count_is_some : (b : ℕ) → 1 ≤ count b
count_is_some b = split (b == 0) refl
  where
    split : (v : Bool) → (b == 0) ≡ v → 1 ≤ (if v then 256 else b)
    split true e = omega arith
    split false e = omega (arith, eqb-false b 0 e)

-- A GET RESPONSE for no more than what waits brings that number of bytes, and its status announces
-- what is left.
pub fetched : (old new : CardState) (cut : ℕ) (t : Tpdu) → Does old cut t new
    → t.header ≡ get_response → count t.p3 ≤ length (waiting old.pending)
    → IsFetched old cut t new
fetched old new cut t does is few =
    let sending : is_get t.header || is_get_response t.header ≡ true =
    ap (λ h. is_get h || is_get_response h) is in
    let taken : refusal old t.header t.p3 ≡ None =
    subst (λ h. refusal old h t.p3 ≡ None) (sym is)
    (fetch_is_taken old t.p3 (omega (arith, few, count_is_some t.p3)) few) in
    let whole : to_send old t.header ≡ waiting old.pending = ap (λ h. to_send old h) is in
    elim (send_step old new cut t does sending) [
      | send_refused refused none left ↦ let no : None ≡ Some t.status = sym taken ∙ refused in
          absurd (cc)
      | is_sent e brought status left ↦ record {
        brought = brought ∙ ap (λ bs. take (count t.p3) bs) whole;
        left = ap (λ s. s.pending) left ∙ ap (λ bs. pending_of (drop (count t.p3) bs)) whole;
        status_is = status ∙ ap (λ bs. announcing (drop (count t.p3) bs) cut) whole;
        same_applications = ap (λ s. s.applications) left;
        same_selected = ap (λ s. s.selected) left;
      }
    ]

-- A GET RESPONSE for no more than what is announced brings it.
pub announced_is_brought : (old mid new : CardState) (cut next n : ℕ) (t fetch : Tpdu)
    → Does old cut t mid → IsCut cut → announces t.status ≡ Some n
    → Does mid next fetch new → fetch.header ≡ get_response → count fetch.p3 ≤ n
    → (1 ≤ length fetch.received) × (length fetch.received ≡ count fetch.p3)
    × (corrects fetch.status ≡ None)
announced_is_brought old mid new cut next n t fetch does is announced fetches header few =
    let waits = what_is_announced_waits old mid cut n t does is announced in
    let whole = fetched mid new next fetch fetches header (omega (arith, waits.1, few)) in
    let brought : length fetch.received ≡ count fetch.p3 =
    ap length whole.brought
    ∙ omega (arith, length-take (count fetch.p3) (waiting mid.pending), waits.1, few) in (
      omega (arith, brought, count_is_some fetch.p3),
      brought,
      ap (λ s. corrects s) whole.status_is
          ∙ none_corrected (drop (count fetch.p3) (waiting mid.pending)),
    )
  where
    none_corrected : (left : List ℕ) → corrects (announcing left next) ≡ None
    none_corrected [] = refl
    none_corrected (b ∷ left) = refl

refusal_keeps_within : (h : Header) (status : StatusWord) (pending : Pending)
    → length (waiting (after_refusal h status pending)) ≤ length (waiting pending)
refusal_keeps_within h status pending =
    after_refusal_holds (λ p. length (waiting p) ≤ length (waiting pending)) h status pending
    (omega arith) (λ left e. subst (λ p. length left ≤ length (waiting p)) (sym e) (omega arith))

-- The bytes that a GET RESPONSE brings, and those that wait afterwards, are at most what waited.
pub fetch_brings_what_waits : (old new : CardState) (cut : ℕ) (t : Tpdu) → Does old cut t new
    → t.header ≡ get_response
    → length t.received + length (waiting new.pending) ≤ length (waiting old.pending)
fetch_brings_what_waits old new cut t does is =
    let sending : is_get t.header || is_get_response t.header ≡ true =
    ap (λ h. is_get h || is_get_response h) is in
    let whole : to_send old t.header ≡ waiting old.pending = ap (λ h. to_send old h) is in
    elim (send_step old new cut t does sending) [
      | send_refused refused none left ↦
          omega (
            arith,
            ap length none,
            ap (λ s. length (waiting s.pending)) left,
            refusal_keeps_within t.header t.status old.pending,
          )
      | is_sent e brought status left ↦
          omega (
            arith,
            ap length brought,
            ap (λ s. length (waiting s.pending)) left,
            taken_and_left (count t.p3) (to_send old t.header),
            ap length whole,
          )
    ]
