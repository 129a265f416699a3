-- A whole exchange with a card of commands.
use Rattle.std.proofs.Common.{◌≡◌, ◌∙◌, ◌⊎◌, ℕ, zero, suc, ◌+◌, ◌-◌, ◌%◌, ◌<◌, ◌≤◌, min, List, [], ◌∷◌, ◌++◌, length, take, drop, Option, Some, None, Bool, true, false, refl, sym, ap, subst, arith, inl, inr, append-nil, length-append, length-take, length-drop, eq-eqb}
use Rattle.std.specs.Prelude.{if◌then◌else◌, ◌==◌, ◌&&◌, nat_lt, nat_le, unwrap_or}
use Rattle.std.specs.List.{AllByRecursion, flat_map}
use Rattle.std.proofs.lemmas.Bool.{eqb-true, eqb-false, ltb-true, ltb-false, leb-true, leb-false, le-leb}
use Rattle.std.proofs.lemmas.List.{take-append-drop, take_all}
use Rattle.apdu_core.specs.declared.header.Header.{Header}
use Rattle.apdu_core.specs.HeaderBytes.{ins_is_valid}
use Rattle.apdu_core.specs.CommandBytes.{Command}
use Rattle.apdu_core.specs.StatusWord.{StatusWord, announces, corrects, count}
use Rattle.t0_core.specs.declared.direction.Direction.{Direction}
use Rattle.t0_core.specs.declared.direction.Direction.TheVariants.{ToCard, FromCard}
use Rattle.t0_core.specs.Dialogue.{Dialogue}
use Rattle.t0_core.specs.Meaning.{Tpdu, Runs, tpdu_of, received, sent}
use Rattle.t0_core.specs.Plan.{Course, IsCut}
use Rattle.apdu_core.specs.Shared.{get_response}
use Rattle.exchange_core.specs.declared.wanted.Wanted.{Wanted}
use Rattle.exchange_core.specs.declared.wanted.Wanted.TheVariants.{Bytes, Everything}
use Rattle.exchange_core.specs.Gathered.{AreFollowed, Asks as AsksBy, By_command, By_fetch, Gathers, IsUnit, Opening, Opens, OpensWith, Repeated, SendsFrom, Single, UnitOf, after_dialogue, after_unit, correction_of, dialogues_of, fetched_after, fetched_of, first_of, last_of, less, repeated_with, unit_data, wanted_by, wants_at_least}
use Rattle.card_terminal.specs.Talk.{HaveCuts}
use Rattle.command_card.specs.Carrying.{Did, IsOwn, Makes, asking, taking}
use Rattle.command_card.specs.State.{CardState, For_repeat, Hand, Nothing_left, Outcome, announcing, fetch_left, handed, pending_for, same_header}
use Rattle.command_card.specs.Meaning.{Answers, Asks, Brings, CarriesAsked, CarriesTaken, Does, DoesBy, Hands, Takes, kind_in}
use Rattle.command_card.proofs.AnswerLemmas.{kind_by, same_as_itself}
use Rattle.command_card.proofs.HandLemmas.{enough, handed_enough, handed_fewer}
use Rattle.command_card.specs.Told.{AreAgreed, GathersPart, IsCutOf, told, unwanted_part, wanted_part}

-- statuses

pub count_told : (n : ℕ) → 1 ≤ n → n ≤ 256 → count (n % 256) ≡ n
count_told n low high = split (n % 256 == 0) refl
  where
    split : (v : Bool) → (n % 256 == 0) ≡ v → (if v then 256 else n % 256) ≡ n
    split true e = omega (arith, low, high, eqb-true (n % 256) 0 e)
    split false e = omega (arith, low, high, eqb-false (n % 256) 0 e)

announced : (rest : List ℕ) (own : StatusWord) (cut n : ℕ) → IsOwn own → IsCut cut
    → announces (announcing rest own cut) ≡ Some n → (1 ≤ n) × (n ≤ length rest) × (n ≤ 256)
announced [] own cut n is in_range e = let no : None ≡ Some n = sym is.0 ∙ e in absurd (cc)
announced (b ∷ rest) own cut n is in_range e =
    let told : Some (count (min (suc (length rest)) cut % 256)) ≡ Some n = e in
    let same : count (min (suc (length rest)) cut % 256) ≡ n = cc in
    let is_n : n ≡ min (suc (length rest)) cut =
    sym same ∙ count_told (min (suc (length rest)) cut) (omega (arith, in_range.0))
    (omega (arith, in_range.1)) in
    (omega (arith, is_n, in_range.0), omega (arith, is_n), omega (arith, is_n, in_range.1))

-- no more than is wanted
abbrev pub Fits : ℕ → Wanted → Type 0
Fits n (Bytes k) = n ≤ k
Fits n Everything = Unit {0}

pub fetch_facts : (rest : List ℕ) (own : StatusWord) (cut n : ℕ) (w : Wanted) → IsOwn own
    → IsCut cut → fetched_after w (announcing rest own cut) ≡ Some n
    → (1 ≤ n) × (n ≤ length rest) × (n ≤ 256) × Fits n w
fetch_facts [] own cut n w is in_range e =
    let no : None ≡ Some n = subst (λ v. fetched_of w v ≡ Some n) is.0 e in absurd (cc)
fetch_facts (b ∷ rest) own cut n Everything is in_range e =
    let facts = announced (b ∷ rest) own cut n is in_range e in (facts.0, facts.1, facts.2, tt)
fetch_facts (b ∷ rest) own cut n (Bytes k) is in_range e = split (nat_le 1 k) refl
  where
    m : ℕ
    m = count (min (suc (length rest)) cut % 256)

    split : (v : Bool) → nat_le 1 k ≡ v
        → (1 ≤ n) × (n ≤ length (b ∷ rest)) × (n ≤ 256) × (n ≤ k)
    split true some =
        let told : Some (min (count (min (suc (length rest)) cut % 256)) k) ≡ Some n =
        subst (λ (v : Bool). (if v then Some (min (count (min (suc (length rest)) cut % 256)) k)
        else None) ≡ Some n) some e in
        let same : min (count (min (suc (length rest)) cut % 256)) k ≡ n = cc in
        let facts = announced (b ∷ rest) own cut (count (min (suc (length rest)) cut % 256)) is
        in_range refl in
        let one = leb-true 1 k some in (
          omega (arith, same, facts.0, one),
          omega (arith, same, facts.1),
          omega (arith, same, facts.2),
          omega (arith, same),
        )
    split false none =
        let no : None ≡ Some n =
        subst (λ (v : Bool). (if v then Some (min (count (min (suc (length rest)) cut % 256)) k)
        else None) ≡ Some n) none e in absurd (cc)

pub end_facts : (rest : List ℕ) (own : StatusWord) (cut : ℕ) (w : Wanted)
    → fetched_after w (announcing rest own cut) ≡ None → (rest ≡ []) ⊎ (w ≡ Bytes 0)
end_facts [] own cut w e = inl refl
end_facts (b ∷ rest) own cut Everything e = absurd (cc)
end_facts (b ∷ rest) own cut (Bytes k) e = split (nat_le 1 k) refl
  where
    split : (v : Bool) → nat_le 1 k ≡ v → (b ∷ rest ≡ []) ⊎ (Bytes k ≡ Bytes 0)
    split true some =
        let no : Some (min (count (min (suc (length rest)) cut % 256)) k) ≡ None =
        subst (λ (v : Bool). (if v then Some (min (count (min (suc (length rest)) cut % 256)) k)
        else None) ≡ None) some e in absurd (cc)
    split false none =
        let zero_is : k ≡ 0 = omega (arith, leb-false 1 k none) in
        inr (ap (λ n. Bytes n) zero_is)

take_past : (front rest : List ℕ) (k : ℕ) → length front ≤ k
    → take k (front ++ rest) ≡ front ++ take (k - length front) rest
take_past [] rest k le = let same : k ≡ k - 0 = omega arith in ap (λ n. take n rest) same
take_past (x ∷ front) rest zero le = absurd (omega (arith, le))
take_past (x ∷ front) rest (suc k) le =
    let same : k - length front ≡ suc k - length (x ∷ front) = omega arith in
    ap (λ xs. x ∷ xs) (take_past front rest k (omega (arith, le)))
    ∙ ap (λ n. x ∷ (front ++ take n rest)) same

drop_past : (front rest : List ℕ) (k : ℕ) → length front ≤ k
    → drop k (front ++ rest) ≡ drop (k - length front) rest
drop_past [] rest k le = let same : k ≡ k - 0 = omega arith in ap (λ n. drop n rest) same
drop_past (x ∷ front) rest zero le = absurd (omega (arith, le))
drop_past (x ∷ front) rest (suc k) le =
    let same : k - length front ≡ suc k - length (x ∷ front) = omega arith in
    drop_past front rest k (omega (arith, le)) ∙ ap (λ n. drop n rest) same

pub more_part : (w : Wanted) (front rest : List ℕ) → Fits (length front) w
    → (front ++ wanted_part (less w (length front)) rest ≡ wanted_part w (front ++ rest))
    × (unwanted_part (less w (length front)) rest ≡ unwanted_part w (front ++ rest))
more_part Everything front rest fits = (refl, refl)
more_part (Bytes k) front rest fits =
    (sym (take_past front rest k fits), sym (drop_past front rest k fits))

pub no_bytes : (xs : List ℕ) → length xs ≡ 0 → xs ≡ []
no_bytes [] e = refl
no_bytes (x ∷ xs) e = absurd (omega (arith, e))

pub last_part : (w : Wanted) (front rest : List ℕ) → Fits (length front) w
    → (rest ≡ []) ⊎ (less w (length front) ≡ Bytes 0)
    → (front ≡ wanted_part w (front ++ rest)) × (rest ≡ unwanted_part w (front ++ rest))
last_part w front rest fits (inl none) =
    let p = more_part w front rest fits in
    let left_none : unwanted_part (less w (length front)) rest ≡ [] =
    ap (λ xs. unwanted_part (less w (length front)) xs) none
    ∙ nothing_left (less w (length front)) in
    let part_none : wanted_part (less w (length front)) rest ≡ [] =
    ap (λ xs. wanted_part (less w (length front)) xs) none ∙ nothing (less w (length front)) in (
      sym (append-nil front) ∙ ap (λ xs. front ++ xs) (sym part_none) ∙ p.0,
      none ∙ sym left_none ∙ p.1,
    )
  where
    nothing : (x : Wanted) → wanted_part x [] ≡ []
    nothing Everything = refl
    nothing (Bytes k) = no_bytes (take k []) (omega (arith, length-take {A = ℕ} k []))

    nothing_left : (x : Wanted) → unwanted_part x [] ≡ []
    nothing_left Everything = refl
    nothing_left (Bytes k) = no_bytes (drop k []) (omega (arith, length-drop {A = ℕ} k []))
last_part w front rest fits (inr done) =
    let p = more_part w front rest fits in (
      sym (append-nil front)
          ∙ ap (λ x. front ++ wanted_part x rest) (sym done) ∙ p.0,
      ap (λ x. unwanted_part x rest) (sym done) ∙ p.1,
    )

pub fits_none : (w : Wanted) → Fits 0 w
fits_none Everything = tt
fits_none (Bytes k) = omega arith

pub fits_le : (m n : ℕ) → m ≤ n → Fits m (wanted_by (Some n))
fits_le m n few = split (n == 256)
  where
    split : (v : Bool) → Fits m (if v then Everything else Bytes n)
    split true = tt
    split false = few

pub wants_fewer : (k n : ℕ) → k ≤ n → wants_at_least k (less (wanted_by (Some n)) 0) ≡ true
wants_fewer k n few = split (n == 256)
  where
    split : (v : Bool) → wants_at_least k (less (if v then Everything else Bytes n) 0) ≡ true
    split true = refl
    split false = le-leb k (n - 0) (omega (arith, few))

pub none_corrected : (rest : List ℕ) (own : StatusWord) (cut : ℕ) → IsOwn own
    → corrects (announcing rest own cut) ≡ None
none_corrected [] own cut is = is.1
none_corrected (b ∷ rest) own cut is = refl

-- a status that corrects nothing repeats nothing
pub not_repeated : (w : Wanted) (d : Dialogue) → corrects d.status ≡ None → repeated_with w d ≡ None
not_repeated w d none =
    ap (λ v. correction_of d.body.direction (after_dialogue w d) v) none
    ∙ each d.body.direction (after_dialogue w d)
  where
    each : (x : Direction) (left : Wanted) → correction_of x left None ≡ None
    each ToCard left = refl
    each FromCard left = refl

-- a count of fewer than 256 is P3 itself
count_is : (p n : ℕ) → count p ≡ n → n < 256 → p ≡ n
count_is p n is few = split (p == 0) refl
  where
    split : (v : Bool) → (p == 0) ≡ v → p ≡ n
    split true e =
        let big : 256 ≡ n = subst (λ (v : Bool). (if v then 256 else p) ≡ n) e is in
        absurd (omega (arith, big, few))
    split false e = subst (λ (v : Bool). (if v then 256 else p) ≡ n) e is

pub take_whole : (xs : List ℕ) → take (length xs) xs ≡ xs
take_whole xs = take_all (length xs) xs (omega arith)

pub drop_whole : (xs : List ℕ) → drop (length xs) xs ≡ []
drop_whole [] = refl
drop_whole (x ∷ xs) = drop_whole xs

opens_asking : (h : Header) (content : List ℕ) (le : Option ℕ) (n : ℕ) (d : Dialogue)
    → content ≡ [] → le ≡ Some n → Opens (record { header = h; content = content; le = le }) d
    → AsksBy h n d
opens_asking h content le n d none asks opens =
    subst (λ (m : Option ℕ). Opens (record { header = h; content = []; le = m }) d) asks
    (subst (λ (k : List ℕ). Opens (record { header = h; content = k; le = le }) d) none opens)

-- the data to the card, if it had this direction
abbrev pub sent_if : Dialogue → Direction → List ℕ
sent_if d x = sent (record d { body = record d.body { direction = x } })

asks_nothing : (h : Header) (n : ℕ) (d : Dialogue) → AsksBy h n d → sent d ≡ []
asks_nothing h n d asks = ap (λ x. sent_if d x) asks.from_card

sends_all : (h : Header) (content : List ℕ) (d : Dialogue) → SendsFrom h content d
    → d.body.p3 ≡ length (sent d) → sent d ≡ content
sends_all h content d opens counts =
    let all : sent d ≡ d.body.moved = ap (λ x. sent_if d x) opens.to_card in
    let (rest, is) = opens.sends in
    let long : length content ≡ length d.body.moved + length rest =
    ap length is ∙ length-append d.body.moved rest in
    let none : rest ≡ [] = no_bytes rest
    (omega (arith, long, counts, ap length all, opens.counts)) in
    all ∙ sym (append-nil d.body.moved) ∙ ap (λ xs. d.body.moved ++ xs) (sym none) ∙ sym is

-- the first dialogue of the command of an application that takes data
opens_taking : (h : Header) (content : List ℕ) (le : Option ℕ) (d : Dialogue)
    → Opens (record { header = h; content = content; le = le }) d
    → (d.body.header ≡ h) × (d.body.p3 ≡ length (sent d) → sent d ≡ content)
opens_taking h [] None d opens = (opens.header_is, sends_all h [] d opens)
opens_taking h [] (Some n) d opens = (opens.header_is, λ counts. asks_nothing h n d opens)
opens_taking h (b ∷ bytes) le d opens = (opens.header_is, sends_all h (b ∷ bytes) d opens)

opened_with : (h : Header) (content : List ℕ) (le : Option ℕ) (d : Dialogue)
    → Opens (record { header = h; content = content; le = le }) d → d.body.header ≡ h
opened_with h content le d opens = (opens_taking h content le d opens).0

-- a dialogue that asked for data, and brought none, is repeated after a correction
pub is_repeated : (w : Wanted) (d : Dialogue) (n : ℕ) → d.body.direction ≡ FromCard
    → received d ≡ [] → wants_at_least n (less w 0) ≡ true → corrects d.status ≡ Some n
    → repeated_with w d ≡ Some n
is_repeated w d n from_card none wants corrected =
    ap (λ v. correction_of d.body.direction (after_dialogue w d) v) corrected
    ∙ ap (λ x. correction_of x (after_dialogue w d) (Some n)) from_card
    ∙ ap (λ xs. correction_of FromCard (less w (length xs)) (Some n)) none
    ∙ ap (λ (v : Bool). if v then Some n else None) wants

pub count_of_byte : (n : ℕ) → 1 ≤ n → count n ≡ n
count_of_byte n some = split (n == 0) refl
  where
    split : (v : Bool) → (n == 0) ≡ v → (if v then 256 else n) ≡ n
    split true e = absurd (omega (arith, some, eqb-true n 0 e))
    split false e = refl

-- a status of the application's own
pub own_status : {S : Type 0} (Act : S → Did → S → Type 0) (old : S) (c : Command)
    (response : List ℕ) (status : StatusWord) (new : S)
    → Makes Act old c response status new → IsOwn status
own_status Act old c response status new (inl made) = made.1
own_status Act old c response status new (inr (same, none, is, long)) =
    subst IsOwn (sym is) (refl, refl)

-- a cut of these plans, in range
abbrev pub Among : List Course → ℕ → Type 0
Among all cut = IsCut cut × IsCutOf all cut

abbrev pub AreAmong : List Course → List Course → Type 0
AreAmong all plans = AllByRecursion (λ (p : Course). Among all p.cut) plans

pub plain_is : (plans : List Course) → IsCutOf plans 256
plain_is [] = refl
plain_is (p ∷ plans) = inr (plain_is plans)

some_of : (all plans : List Course) → HaveCuts plans
    → ((cut : ℕ) → IsCutOf plans cut → IsCutOf all cut) → AreAmong all plans
some_of all [] have are = tt
some_of all (p ∷ plans) have are =
    ((have.0, are p.cut (inl refl)), some_of all plans have.1 (λ cut is. are cut (inr is)))

pub all_of : (plans : List Course) → HaveCuts plans → AreAmong plans plans
all_of plans have = some_of plans plans have (λ cut is. is)

module _ {S : Type 0} (takes : S → Header → Bool) (Act : S → Did → S → Type 0)
    (all : List Course) where
  abbrev Meant : CardState S → ℕ → Tpdu → CardState S → Type 0
  Meant old cut t new = Does takes Act old cut t new

  -- the first of several dialogues
  record Begun (old : CardState S) (d : Dialogue) (others : List Dialogue) (new : CardState S)
      : Type 0 where
    cut : ℕ
    mid : CardState S
    plans : List Course
    in_range : Among all cut
    does : Meant old cut (tpdu_of d) mid
    runs : Runs Meant mid others plans new
    have : AreAmong all plans

  begun : (old : CardState S) (d : Dialogue) (others : List Dialogue) (plans : List Course)
      (new : CardState S) → AreAmong all plans → Runs Meant old (d ∷ others) plans new
      → Begun old d others new
  begun old d others [] new have runs = record {
    cut = 256;
    mid = runs.0;
    plans = [];
    in_range = ((omega arith, omega arith), plain_is all);
    does = runs.1;
    runs = runs.2;
    have = tt;
  }
  begun old d others (p ∷ plans) new have runs = record {
    cut = p.cut;
    mid = runs.0;
    plans = plans;
    in_range = have.0;
    does = runs.1;
    runs = runs.2;
    have = have.1;
  }

  -- After a unit: it has brought the front of a response, and the rest is pending.
  record Halfway (w : Wanted) (whole : List ℕ) (own : StatusWord) (app : S) (u : UnitOf)
      (others : List Dialogue) (new : CardState S) : Type 0 where
    front : List ℕ
    rest : List ℕ
    cut : ℕ
    mid : CardState S
    plans : List Course
    whole_is : whole ≡ front ++ rest
    brought : unit_data u ≡ front
    fits : Fits (length front) w
    in_range : Among all cut
    status_is : (last_of u).status ≡ announcing rest own cut
    left_is : mid.left ≡ fetch_left rest own
    app_is : mid.app ≡ app
    runs : Runs Meant mid others plans new
    have : AreAmong all plans

  -- a GET RESPONSE for no more bytes than are pending
  fetches_some : (bytes : List ℕ) (own : StatusWord) (n cut : ℕ) (d : Dialogue)
      (old mid : CardState S) → old.left ≡ fetch_left bytes own → 1 ≤ n → n ≤ length bytes
      → AsksBy get_response n d → Meant old cut (tpdu_of d) mid
      → Brings (tpdu_of d) mid.left (enough bytes own n cut) × (mid.app ≡ old.app)
  fetches_some [] own n cut d old mid left some few asks does = absurd (omega (arith, some, few))
  fetches_some (b ∷ bytes) own n cut d old mid left some few asks does =
      let hand : Hand = record { bytes = b ∷ bytes; status = own } in
      let pending : pending_for old.left d.body.header d.body.p3 ≡ Some hand =
      ap (λ h. pending_for old.left h d.body.p3) asks.header_is
      ∙ ap (λ l. pending_for l get_response d.body.p3) left in
      let kind : kind_in takes old d.body.header d.body.p3 ≡ Hands hand =
      kind_by _ true _ (Some hand) _ _ _ _ (ap (λ (h : Header). ins_is_valid h.ins) asks.header_is)
      pending refl refl in
      let answers : Answers old (tpdu_of d) mid
      (handed old.left (b ∷ bytes) own (count d.body.p3) cut) =
      subst (λ k. DoesBy Act old cut (tpdu_of d) mid k) kind does in
      let is : handed old.left (b ∷ bytes) own (count d.body.p3) cut
      ≡ enough (b ∷ bytes) own n cut =
      ap (λ m. handed old.left (b ∷ bytes) own m cut) asks.counts
      ∙ handed_enough old.left (b ∷ bytes) own n cut (omega arith) few in
      (subst (λ o. Brings (tpdu_of d) mid.left o) is answers.brings, answers.same)

  -- a unit that begins with such a GET RESPONSE
  fetch_unit : (w : Wanted) (bytes : List ℕ) (own : StatusWord) (n : ℕ) (u : UnitOf)
      (old new : CardState S)
      (others : List Dialogue) (plans : List Course) → IsOwn own → old.left ≡ fetch_left bytes own
      → 1 ≤ n → n ≤ length bytes → Fits n w → AsksBy get_response n (first_of u) → IsUnit w u
      → AreAmong all plans → Runs Meant old (dialogues_of u ++ others) plans new
      → Halfway w bytes own old.app u others new
  fetch_unit w bytes own n (Single d) old new others plans is left some few fits asks unit have
      runs =
      let b = begun old d others plans new have runs in
      let (brings, same) = fetches_some bytes own n b.cut d old b.mid left some few asks b.does in
      let long : length (take n bytes) ≡ n = omega (arith, length-take n bytes, few) in
      record {
        front = take n bytes;
        rest = drop n bytes;
        cut = b.cut;
        mid = b.mid;
        plans = b.plans;
        whole_is = sym (take-append-drop n bytes);
        brought = append-nil (received d) ∙ brings.received_is;
        fits = subst (λ k. Fits k w) (sym long) fits;
        in_range = b.in_range;
        status_is = brings.status_is;
        left_is = brings.left_is;
        app_is = same;
        runs = b.runs;
        have = b.have;
      }
  fetch_unit w bytes own n (Repeated d e) old new others plans is left some few fits asks unit have
      runs =
      let b = begun old d (e ∷ others) plans new have runs in
      let (brings, same) = fetches_some bytes own n b.cut d old b.mid left some few asks b.does in
      let none = not_repeated w d
      (ap (λ s. corrects s) brings.status_is ∙ none_corrected (drop n bytes) own b.cut is) in
      let no : None ≡ Some unit.0 = sym none ∙ unit.1 in absurd (cc)

  -- the end of an exchange
  record Ended (w : Wanted) (whole : List ℕ) (own : StatusWord) (app : S) (units : List UnitOf)
      (last : UnitOf) (new : CardState S) : Type 0 where
    cut : ℕ
    in_range : Among all cut
    gathered : flat_map unit_data units ≡ wanted_part w whole
    status_is : (last_of last).status ≡ announcing (unwanted_part w whole) own cut
    app_is : new.app ≡ app
    left_is : new.left ≡ fetch_left (unwanted_part w whole) own

  -- what is still wanted after a unit
  after_is : (w : Wanted) (whole : List ℕ) (own : StatusWord) (app : S) (u : UnitOf)
      (others : List Dialogue) (new : CardState S) (half : Halfway w whole own app u others new)
      → after_unit w u ≡ less w (length half.front)
  after_is w whole own app u others new half = ap (λ xs. less w (length xs)) half.brought

  -- after the last unit
  finished : (w : Wanted) (whole : List ℕ) (own : StatusWord) (app : S) (u : UnitOf)
      (new : CardState S) → Halfway w whole own app u [] new
      → fetched_after (after_unit w u) (last_of u).status ≡ None
      → Ended w whole own app (u ∷ []) u new
  finished w whole own app u new half ends =
      let facts = end_facts half.rest own half.cut (less w (length half.front))
      (ap (λ s. fetched_after (less w (length half.front)) s) (sym half.status_is)
      ∙ ap (λ x. fetched_after x (last_of u).status)
      (sym (after_is w whole own app u [] new half)) ∙ ends) in
      let part = last_part w half.front half.rest half.fits facts in
      let rest_is : half.rest ≡ unwanted_part w whole =
      part.1 ∙ ap (λ xs. unwanted_part w xs) (sym half.whole_is) in
      let same : new ≡ half.mid = half.runs in
      record {
        cut = half.cut;
        in_range = half.in_range;
        gathered = append-nil (unit_data u) ∙ half.brought ∙ part.0
            ∙ ap (λ xs. wanted_part w xs) (sym half.whole_is);
        status_is = half.status_is ∙ ap (λ xs. announcing xs own half.cut) rest_is;
        app_is = ap (λ (s : CardState S). s.app) same ∙ half.app_is;
        left_is = ap (λ (s : CardState S). s.left) same ∙ half.left_is
            ∙ ap (λ xs. fetch_left xs own) rest_is;
      }

  -- one unit more
  joined : (w : Wanted) (whole : List ℕ) (own : StatusWord) (app : S) (u last : UnitOf)
      (units : List UnitOf) (others : List Dialogue) (new : CardState S)
      (half : Halfway w whole own app u others new)
      → Ended (after_unit w u) half.rest own half.mid.app units last new
      → Ended w whole own app (u ∷ units) last new
  joined w whole own app u last units others new half e =
      let is = after_is w whole own app u others new half in
      let part = more_part w half.front half.rest half.fits in
      let rest_is : unwanted_part (after_unit w u) half.rest ≡ unwanted_part w whole =
      ap (λ x. unwanted_part x half.rest) is ∙ part.1
      ∙ ap (λ xs. unwanted_part w xs) (sym half.whole_is) in
      record {
        cut = e.cut;
        in_range = e.in_range;
        gathered = ap (λ xs. unit_data u ++ xs) e.gathered
            ∙ ap (λ xs. xs ++ wanted_part (after_unit w u) half.rest) half.brought
            ∙ ap (λ x. half.front ++ wanted_part x half.rest) is ∙ part.0
            ∙ ap (λ xs. wanted_part w xs) (sym half.whole_is);
        status_is = e.status_is ∙ ap (λ xs. announcing xs own e.cut) rest_is;
        app_is = e.app_is ∙ half.app_is;
        left_is = e.left_is ∙ ap (λ xs. fetch_left xs own) rest_is;
      }

  -- the GET RESPONSEs of an exchange
  fetch_all : (before : List UnitOf) (last : UnitOf) (n : ℕ) (next : Opening) (w left : Wanted)
      (bytes : List ℕ) (own : StatusWord) (old new : CardState S) (plans : List Course)
      → IsOwn own → old.left ≡ fetch_left bytes own
      → (1 ≤ n) × (n ≤ length bytes) × (n ≤ 256) × Fits n w
      → AreFollowed (By_fetch n) w before next left → OpensWith next (first_of last)
      → IsUnit left last → fetched_after (after_unit left last) (last_of last).status ≡ None
      → AreAmong all plans → Runs Meant old (flat_map dialogues_of (before ++ last ∷ [])) plans new
      → Ended w bytes own old.app (before ++ last ∷ []) last new
  fetch_all [] last n next w left bytes own old new plans is waits
      (some, few, small, fits) followed opens unit ends have runs =
      let opens_so : AsksBy get_response n (first_of last) =
      subst (λ o. OpensWith o (first_of last)) followed.0 opens in
      let unit_so : IsUnit w last = subst (λ x. IsUnit x last) followed.1 unit in
      let ends_so : fetched_after (after_unit w last) (last_of last).status ≡ None =
      subst (λ x. fetched_after (after_unit x last) (last_of last).status ≡ None) followed.1 ends in
      finished w bytes own old.app last new
      (fetch_unit w bytes own n last old new [] plans is waits some few fits opens_so unit_so have
      runs) ends_so
  fetch_all (u ∷ before) last n next w left bytes own old new plans is waits
      (some, few, small, fits) followed opens unit ends have runs =
      let (m, follows, others) = followed in
      let half = fetch_unit w bytes own n u old new
      (flat_map dialogues_of (before ++ last ∷ [])) plans is waits some few fits follows.opens
      follows.is_unit have runs in
      let more = fetch_facts half.rest own half.cut m (after_unit w u) is half.in_range.0
      (ap (λ s. fetched_after (after_unit w u) s) (sym half.status_is) ∙ follows.fetched) in
      joined w bytes own old.app u last (before ++ last ∷ []) _ new half
      (fetch_all before last m next (after_unit w u) left half.rest own half.mid new half.plans is
      half.left_is more others opens unit ends half.have half.runs)

  -- the first unit of an exchange, and the step of the application
  record First (c : Command) (first : CardState S) (u : UnitOf) (others : List Dialogue)
      (new : CardState S) : Type 0 where
    response : List ℕ
    own : StatusWord
    app : S
    makes : Makes Act first.app (told (takes first.app c.header) c) response own app
    half : Halfway (wanted_by c.le) response own app u others new

  first_taking : (c : Command) (first new : CardState S) (u : UnitOf) (others : List Dialogue)
      (plans : List Course) → AreAgreed takes first c
      → takes first.app c.header ≡ true → Opens c (first_of u) → IsUnit (wanted_by c.le) u
      → AreAmong all plans → Runs Meant first (dialogues_of u ++ others) plans new
      → First c first u others new
  first_taking c first new u others plans agreed taking_is opens unit have runs =
      by_unit u opens unit runs
    where
      carried : (d : Dialogue) (cut : ℕ) (mid : CardState S) → Opens c d
          → Meant first cut (tpdu_of d) mid → CarriesTaken Act first cut (tpdu_of d) mid
      carried d cut mid opens does =
          let header_is = opened_with c.header c.content c.le d opens in
          let kind : kind_in takes first d.body.header d.body.p3 ≡ Takes =
          ap (λ h. kind_in takes first h d.body.p3) header_is
          ∙ kind_by _ true _ None _ false _ true agreed.valid (agreed.none_pending d.body.p3)
          agreed.no_fetch taking_is in
          subst (λ k. DoesBy Act first cut (tpdu_of d) mid k) kind does

      by_unit : (u : UnitOf) → Opens c (first_of u) → IsUnit (wanted_by c.le) u
          → Runs Meant first (dialogues_of u ++ others) plans new → First c first u others new
      by_unit (Single d) opens unit runs =
          let b = begun first d others plans new have runs in
          let t = carried d b.cut b.mid opens b.does in
          let (header_is, content_is) = opens_taking c.header c.content c.le d opens in
          let M : Command → Type 0 = λ m. Makes Act first.app m t.response t.status b.mid.app in
          record {
            response = t.response;
            own = t.status;
            app = b.mid.app;
            makes = subst (λ v. M (told v c)) (sym taking_is)
                (subst (λ xs. M (taking c.header xs)) (content_is t.counts)
                (subst (λ h. M (taking h (sent d))) header_is t.makes));
            half = record {
              front = [];
              rest = t.response;
              cut = b.cut;
              mid = b.mid;
              plans = b.plans;
              whole_is = refl;
              brought = append-nil (received d) ∙ t.brings.received_is;
              fits = fits_none (wanted_by c.le);
              in_range = b.in_range;
              status_is = t.brings.status_is;
              left_is = t.brings.left_is;
              app_is = refl;
              runs = b.runs;
              have = b.have;
            };
          }
      by_unit (Repeated d e) opens unit runs =
          let b = begun first d (e ∷ others) plans new have runs in
          let t = carried d b.cut b.mid opens b.does in
          let none = not_repeated (wanted_by c.le) d (ap (λ s. corrects s) t.brings.status_is
          ∙ none_corrected t.response t.status b.cut
          (own_status Act first.app _ t.response t.status b.mid.app t.makes)) in
          let no : None ≡ Some unit.0 = sym none ∙ unit.1 in absurd (cc)

  -- the dialogue that asks again, after 6CXX
  asks_again : (h : Header) (bytes : List ℕ) (own : StatusWord) (cut : ℕ) (e : Dialogue)
      (old mid : CardState S) → ins_is_valid h.ins ≡ true → old.left ≡ For_repeat h bytes own
      → 1 ≤ length bytes → length bytes < 256 → AsksBy h (length bytes) e
      → Meant old cut (tpdu_of e) mid
      → (received e ≡ bytes) × (e.status ≡ own) × (mid.left ≡ Nothing_left) × (mid.app ≡ old.app)
  asks_again h bytes own cut e old mid valid left some few asks does =
      let hand : Hand = record { bytes = bytes; status = own } in
      let p3_is : e.body.p3 ≡ length bytes = count_is e.body.p3 (length bytes) asks.counts few in
      let is_it : (same_header h h && (length bytes == e.body.p3)) ≡ true =
      ap (λ v. v && (length bytes == e.body.p3)) (same_as_itself h)
      ∙ eq-eqb (length bytes) e.body.p3 (sym p3_is) in
      let pending : pending_for old.left e.body.header e.body.p3 ≡ Some hand =
      ap (λ x. pending_for old.left x e.body.p3) asks.header_is
      ∙ ap (λ l. pending_for l h e.body.p3) left
      ∙ ap (λ (v : Bool). if v then Some hand else None) is_it in
      let kind : kind_in takes old e.body.header e.body.p3 ≡ Hands hand =
      kind_by _ true _ (Some hand) _ _ _ _
      (ap (λ (x : Header). ins_is_valid x.ins) asks.header_is ∙ valid) pending refl refl in
      let answers : Answers old (tpdu_of e) mid (handed old.left bytes own (count e.body.p3) cut) =
      subst (λ k. DoesBy Act old cut (tpdu_of e) mid k) kind does in
      let is : handed old.left bytes own (count e.body.p3) cut
      ≡ enough bytes own (length bytes) cut =
      ap (λ m. handed old.left bytes own m cut) asks.counts
      ∙ handed_enough old.left bytes own (length bytes) cut some (omega arith) in
      let none = drop_whole bytes in
      let b = answers.brings in (
        b.received_is ∙ ap (λ (o : Outcome). o.received) is ∙ take_whole bytes,
        b.status_is ∙ ap (λ (o : Outcome). o.status) is ∙ ap (λ xs. announcing xs own cut) none,
        b.left_is ∙ ap (λ (o : Outcome). o.left) is ∙ ap (λ xs. fetch_left xs own) none,
        answers.same,
      )

  -- what the card has carried out at the header
  asked : (c : Command) (first mid : CardState S) (d : Dialogue) (cut : ℕ)
      → AreAgreed takes first c → takes first.app c.header ≡ false → d.body.header ≡ c.header
      → Meant first cut (tpdu_of d) mid → CarriesAsked Act first cut (tpdu_of d) mid
  asked c first mid d cut agreed asking_is header_is does =
      let kind : kind_in takes first d.body.header d.body.p3 ≡ Asks =
      ap (λ h. kind_in takes first h d.body.p3) header_is
      ∙ kind_by _ true _ None _ false _ false agreed.valid (agreed.none_pending d.body.p3)
      agreed.no_fetch asking_is in
      subst (λ k. DoesBy Act first cut (tpdu_of d) mid k) kind does

  -- what such a header brings, before and after a repetition
  data Way (h : Header) (n : ℕ) (d : Dialogue) (mid : CardState S) (cut : ℕ)
      (response : List ℕ) (own : StatusWord) : Type 0 where
    at_once : (front rest : List ℕ) → response ≡ front ++ rest → length front ≤ n
        → received d ≡ front → d.status ≡ announcing rest own cut
        → mid.left ≡ fetch_left rest own → Way h n d mid cut response own
    once_more : 1 ≤ length response → length response < n → received d ≡ []
        → d.status ≡ (0x6C, length response) → mid.left ≡ For_repeat h response own
        → Way h n d mid cut response own

  way : (h : Header) (n : ℕ) (mid : CardState S) (d : Dialogue) (cut : ℕ) (response : List ℕ)
      (own : StatusWord)
      → Brings (tpdu_of d) mid.left (handed (For_repeat h response own) response own n cut)
      → Way h n d mid cut response own
  way h n mid d cut [] own brings =
      at_once [] [] refl (omega arith) brings.received_is brings.status_is brings.left_is
  way h n mid d cut (b ∷ bytes) own brings = split (nat_lt (length (b ∷ bytes)) n) refl
    where
      split : (v : Bool) → nat_lt (length (b ∷ bytes)) n ≡ v → Way h n d mid cut (b ∷ bytes) own
      split true e =
          let few = ltb-true (length (b ∷ bytes)) n e in
          let is = handed_fewer (For_repeat h (b ∷ bytes) own) (b ∷ bytes) own n cut
          (omega arith) few in
          once_more (omega arith) few
          (brings.received_is ∙ ap (λ (o : Outcome). o.received) is)
          (brings.status_is ∙ ap (λ (o : Outcome). o.status) is)
          (brings.left_is ∙ ap (λ (o : Outcome). o.left) is)
      split false e =
          let many = ltb-false (length (b ∷ bytes)) n e in
          let is = handed_enough (For_repeat h (b ∷ bytes) own) (b ∷ bytes) own n cut
          (omega arith) many in
          at_once (take n (b ∷ bytes)) (drop n (b ∷ bytes))
          (sym (take-append-drop n (b ∷ bytes)))
          (omega (arith, length-take n (b ∷ bytes)))
          (brings.received_is ∙ ap (λ (o : Outcome). o.received) is)
          (brings.status_is ∙ ap (λ (o : Outcome). o.status) is)
          (brings.left_is ∙ ap (λ (o : Outcome). o.left) is)

  first_asking : (c : Command) (first new : CardState S) (u : UnitOf) (others : List Dialogue)
      (plans : List Course) (n : ℕ) → AreAgreed takes first c → c.le ≡ Some n → 1 ≤ n → n ≤ 256
      → takes first.app c.header ≡ false → Opens c (first_of u) → IsUnit (wanted_by c.le) u
      → AreAmong all plans → Runs Meant first (dialogues_of u ++ others) plans new
      → First c first u others new
  first_asking c first new u others plans n agreed le_is some_le few_le asking_is opens unit have
      runs =
      by_unit u opens unit runs
    where
      opens_so : (d : Dialogue) → Opens c d → AsksBy c.header n d
      opens_so d opens =
          opens_asking c.header c.content c.le n d (agreed.no_data asking_is) le_is opens

      makes_so : (d : Dialogue) (cut : ℕ) (mid : CardState S) → AsksBy c.header n d
          → (t : CarriesAsked Act first cut (tpdu_of d) mid)
          → Makes Act first.app (told (takes first.app c.header) c) t.response t.status mid.app
      makes_so d cut mid so t =
          let M : Command → Type 0 = λ m. Makes Act first.app m t.response t.status mid.app in
          subst (λ v. M (told v c)) (sym asking_is)
          (subst (λ (m : Option ℕ). M (asking c.header (unwrap_or m 256))) (sym le_is)
          (subst (λ k. M (asking c.header k)) so.counts
          (subst (λ h. M (asking h (count d.body.p3))) so.header_is t.makes)))

      way_so : (d : Dialogue) (cut : ℕ) (mid : CardState S) → AsksBy c.header n d
          → (t : CarriesAsked Act first cut (tpdu_of d) mid)
          → Way c.header n d mid cut t.response t.status
      way_so d cut mid so t =
          let B : ℕ → Header → Type 0 = λ k h. Brings (tpdu_of d) mid.left
          (handed (For_repeat h t.response t.status) t.response t.status k cut) in
          way c.header n mid d cut t.response t.status
          (subst (λ h. B n h) so.header_is (subst (λ k. B k d.body.header) so.counts t.brings))

      fits_so : (m : ℕ) → m ≤ n → Fits m (wanted_by c.le)
      fits_so m few = subst (λ l. Fits m (wanted_by l)) (sym le_is) (fits_le m n few)

      again : (d : Dialogue) (response : List ℕ) → AsksBy c.header n d → 1 ≤ length response
          → length response < n → received d ≡ [] → d.status ≡ (0x6C, length response)
          → repeated_with (wanted_by c.le) d ≡ Some (length response)
      again d response so some few brought status_is =
          is_repeated (wanted_by c.le) d (length response) so.from_card brought
          (subst (λ l. wants_at_least (length response) (less (wanted_by l) 0) ≡ true) (sym le_is)
          (wants_fewer (length response) n (omega (arith, few))))
          (ap (λ s. corrects s) status_is
          ∙ ap (λ k. Some k) (count_of_byte (length response) some))

      by_unit : (u : UnitOf) → Opens c (first_of u) → IsUnit (wanted_by c.le) u
          → Runs Meant first (dialogues_of u ++ others) plans new → First c first u others new
      by_unit (Single d) opens unit runs =
          let b = begun first d others plans new have runs in
          let so = opens_so d opens in
          let t = asked c first b.mid d b.cut agreed asking_is so.header_is b.does in
          record {
            response = t.response;
            own = t.status;
            app = b.mid.app;
            makes = makes_so d b.cut b.mid so t;
            half = elim (way_so d b.cut b.mid so t) [
              | at_once front rest whole short brought status_is left_is ↦ record {
                front = front;
                rest = rest;
                cut = b.cut;
                mid = b.mid;
                plans = b.plans;
                whole_is = whole;
                brought = append-nil (received d) ∙ brought;
                fits = fits_so (length front) short;
                in_range = b.in_range;
                status_is = status_is;
                left_is = left_is;
                app_is = refl;
                runs = b.runs;
                have = b.have;
              }
              | once_more some few brought status_is left_is ↦
                  let no : None ≡ Some (length t.response) =
                  sym unit ∙ again d t.response so some few brought status_is in
                  absurd (cc)
            ];
          }
      by_unit (Repeated d e) opens unit runs =
          let b = begun first d (e ∷ others) plans new have runs in
          let so = opens_so d opens in
          let t = asked c first b.mid d b.cut agreed asking_is so.header_is b.does in
          let own = own_status Act first.app _ t.response t.status b.mid.app t.makes in
          record {
            response = t.response;
            own = t.status;
            app = b.mid.app;
            makes = makes_so d b.cut b.mid so t;
            half = elim (way_so d b.cut b.mid so t) [
              | at_once front rest whole short brought status_is left_is ↦
                  let none = not_repeated (wanted_by c.le) d
                  (ap (λ s. corrects s) status_is ∙ none_corrected rest t.status b.cut own) in
                  let no : None ≡ Some unit.0 = sym none ∙ unit.1 in absurd (cc)
              | once_more some few brought status_is left_is ↦
                  let f = begun b.mid e others b.plans new b.have b.runs in
                  let n_is : Some unit.0 ≡ Some (length t.response) =
                  sym unit.1 ∙ again d t.response so some few brought status_is in
                  let n_same : unit.0 ≡ length t.response = cc in
                  let asks_so : AsksBy c.header (length t.response) e =
                  subst (λ k. AsksBy c.header k e) n_same
                  (subst (λ h. AsksBy h unit.0 e) so.header_is unit.2) in
                  let r = asks_again c.header t.response t.status f.cut e b.mid f.mid agreed.valid
                  left_is some (omega (arith, few, few_le)) asks_so f.does in
                  record {
                    front = t.response;
                    rest = [];
                    cut = f.cut;
                    mid = f.mid;
                    plans = f.plans;
                    whole_is = sym (append-nil t.response);
                    brought = ap (λ xs. xs ++ (received e ++ [])) brought
                        ∙ append-nil (received e) ∙ r.0;
                    fits = fits_so (length t.response) (omega (arith, few));
                    in_range = f.in_range;
                    status_is = r.1;
                    left_is = r.2;
                    app_is = r.3;
                    runs = f.runs;
                    have = f.have;
                  }
            ];
          }

  first_unit : (c : Command) (first new : CardState S) (u : UnitOf) (others : List Dialogue)
      (plans : List Course) → AreAgreed takes first c → Opens c (first_of u)
      → IsUnit (wanted_by c.le) u → AreAmong all plans
      → Runs Meant first (dialogues_of u ++ others) plans new → First c first u others new
  first_unit c first new u others plans agreed opens unit have runs =
      split (takes first.app c.header) refl
    where
      split : (v : Bool) → takes first.app c.header ≡ v → First c first u others new
      split true e = first_taking c first new u others plans agreed e opens unit have runs
      split false e =
          let (n, le_is, some, few) = agreed.has_le e in
          first_asking c first new u others plans n agreed le_is some few e opens unit have runs

  part_so : (c : Command) (first last : CardState S) (u final : UnitOf) (units : List UnitOf)
      (others : List Dialogue) (gathered : List ℕ) (status : StatusWord)
      (f : First c first u others last)
      → Ended (wanted_by c.le) f.response f.own f.app units final last
      → gathered ≡ flat_map unit_data units → status ≡ (last_of final).status
      → GathersPart takes Act all first c gathered status last
  part_so c first last u final units others gathered status f e gathered_is status_is = record {
    bytes = f.response;
    own = f.own;
    cut = e.cut;
    is_cut = e.in_range.1;
    makes = subst (λ a. Makes Act first.app (told (takes first.app c.header) c) f.response f.own a)
        (sym e.app_is) f.makes;
    gathered_is = gathered_is ∙ e.gathered;
    status_is = status_is ∙ e.status_is;
    left_is = e.left_is;
  }

  by_units : (before : List UnitOf) (last : UnitOf) (opening : Opening) (left : Wanted)
      (c : Command) (first new : CardState S) (plans : List Course) (gathered : List ℕ)
      (status : StatusWord) → AreAgreed takes first c
      → AreFollowed (By_command c) (wanted_by c.le) before opening left
      → OpensWith opening (first_of last) → IsUnit left last
      → fetched_after (after_unit left last) (last_of last).status ≡ None
      → status ≡ (last_of last).status → gathered ≡ flat_map unit_data (before ++ last ∷ [])
      → AreAmong all plans
      → Runs Meant first (flat_map dialogues_of (before ++ last ∷ [])) plans new
      → GathersPart takes Act all first c gathered status new
  by_units [] last opening left c first new plans gathered status agreed followed opens unit ends
      status_is gathered_is have runs =
      let w = wanted_by c.le in
      let opens_so : Opens c (first_of last) =
      subst (λ o. OpensWith o (first_of last)) followed.0 opens in
      let unit_so : IsUnit (wanted_by c.le) last = subst (λ x. IsUnit x last) followed.1 unit in
      let ends_so : fetched_after (after_unit (wanted_by c.le) last) (last_of last).status ≡ None =
      subst (λ x. fetched_after (after_unit x last) (last_of last).status ≡ None) followed.1 ends in
      let f = first_unit c first new last [] plans agreed opens_so unit_so have runs in
      part_so c first new last last (last ∷ []) [] gathered status f
      (finished w f.response f.own f.app last new f.half ends_so) gathered_is status_is
  by_units (u ∷ before) last opening left c first new plans gathered status agreed followed opens
      unit ends status_is gathered_is have runs =
      let w = wanted_by c.le in
      let (m, follows, others) = followed in
      let rest = flat_map dialogues_of (before ++ last ∷ []) in
      let f = first_unit c first new u rest plans agreed follows.opens follows.is_unit have runs in
      let half = f.half in
      let own = own_status Act first.app _ f.response f.own f.app f.makes in
      let more = fetch_facts half.rest f.own half.cut m (after_unit w u) own half.in_range.0
      (ap (λ s. fetched_after (after_unit w u) s) (sym half.status_is) ∙ follows.fetched) in
      let e = fetch_all before last m opening (after_unit w u) left half.rest f.own half.mid new
      half.plans own half.left_is more others opens unit ends half.have half.runs in
      part_so c first new u last (u ∷ (before ++ last ∷ [])) rest gathered status f
      (joined w f.response f.own f.app u last (before ++ last ∷ []) rest new half e) gathered_is
      status_is

pub gathers_a_part : {S : Type 0} (takes : S → Header → Bool) (Act : S → Did → S → Type 0)
    (first last : CardState S) (c : Command) (units : List UnitOf) (plans : List Course)
    (gathered : List ℕ) (status : StatusWord) → AreAgreed takes first c
    → HaveCuts plans → Runs (Does takes Act) first (flat_map dialogues_of units) plans last
    → Gathers c units gathered status → GathersPart takes Act plans first c gathered status last
gathers_a_part takes Act first last c units plans gathered status agreed have runs g =
    let o = g.is_open in
    by_units takes Act plans o.before o.last o.opening o.left c first last plans gathered status
    agreed o.followed o.opens o.is_unit g.ends g.status_is
    (g.gathered_is ∙ ap (λ us. flat_map unit_data us) o.units_are) (all_of plans have)
    (subst (λ us. Runs (Does takes Act) first (flat_map dialogues_of us) plans last) o.units_are
    runs)

pub gathers_the_response : {S : Type 0} (takes : S → Header → Bool) (Act : S → Did → S → Type 0)
    (first last : CardState S) (c : Command) (units : List UnitOf) (plans : List Course)
    (gathered : List ℕ) (status : StatusWord) → c.le ≡ Some 256 → AreAgreed takes first c
    → HaveCuts plans → Runs (Does takes Act) first (flat_map dialogues_of units) plans last
    → Gathers c units gathered status
    → Makes Act first.app (told (takes first.app c.header) c) gathered status last.app
    × (last.left ≡ Nothing_left)
gathers_the_response takes Act first last c units plans gathered status asks agreed have runs g =
    let p = gathers_a_part takes Act first last c units plans gathered status agreed have runs g in
    let all : gathered ≡ p.bytes =
    p.gathered_is ∙ ap (λ l. wanted_part (wanted_by l) p.bytes) asks in
    let none : unwanted_part (wanted_by c.le) p.bytes ≡ [] =
    ap (λ l. unwanted_part (wanted_by l) p.bytes) asks in
    let own : status ≡ p.own = p.status_is ∙ ap (λ xs. announcing xs p.own p.cut) none in
    let M : List ℕ → StatusWord → Type 0 = λ r w. Makes Act first.app
    (told (takes first.app c.header) c) r w last.app in (
      subst (λ w. M gathered w) (sym own) (subst (λ r. M r p.own) (sym all) p.makes),
      p.left_is ∙ ap (λ xs. fetch_left xs p.own) none,
    )
