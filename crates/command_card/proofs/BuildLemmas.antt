-- An exchange at T=0 that gathers a response, under any plans.
use Rattle.std.proofs.Common.{◌≡◌, ◌∙◌, ◌⊎◌, ℕ, zero, suc, ◌-◌, ◌%◌, ◌<◌, ◌≤◌, List, [], ◌∷◌, ◌++◌, length, take, drop, Option, Some, None, Bool, true, false, refl, sym, ap, subst, arith, inl, inr, append-nil, length-append, length-take, length-drop, eq-eqb}
use Rattle.std.specs.Prelude.{if◌then◌else◌, nat_lt, unwrap_or}
use Rattle.std.specs.List.{AllByRecursion, flat_map}
use Rattle.std.proofs.lemmas.Bool.{and_from, ltb-true, ltb-false}
use Rattle.std.proofs.lemmas.List.{take-append-drop}
use Rattle.apdu_core.specs.declared.header.Header.{Header}
use Rattle.apdu_core.specs.HeaderBytes.{ins_is_valid}
use Rattle.apdu_core.specs.CommandBytes.{Command}
use Rattle.apdu_core.specs.StatusWord.{StatusWord, IsStatusWord, count}
use Rattle.t0_core.specs.declared.direction.Direction.{Direction}
use Rattle.t0_core.specs.declared.direction.Direction.TheVariants.{ToCard, FromCard}
use Rattle.t0_core.specs.declared.plan.Step.{Step}
use Rattle.t0_core.specs.declared.plan.Step.TheVariants.{Null, One, All}
use Rattle.t0_core.specs.Dialogue.{Dialogue, IsDialogue, all_moves, foreseen}
use Rattle.t0_core.specs.Meaning.{Runs, Tpdu, tpdu_of}
use Rattle.t0_core.specs.Plan.{Course, FollowInTurn, Follows, plain, segments_of}
use Rattle.apdu_core.specs.Shared.{get_response}
use Rattle.exchange_core.specs.declared.wanted.Wanted.{Wanted}
use Rattle.exchange_core.specs.declared.wanted.Wanted.TheVariants.{Bytes, Everything}
use Rattle.exchange_core.specs.Gathered.{AreFollowed, Asks as AsksBy, BringsSome, By_command, By_fetch, IsFollowed, IsUnit, Opening, Opens, OpensWith, Repeated, SendsFrom, Single, UnitOf, after_unit, dialogues_of, fetched_after, first_of, last_of, less, unit_data, wanted_by, wants_at_least}
use Rattle.card_terminal.specs.Talk.{HaveCuts}
use Rattle.command_card.specs.Carrying.{Did, IsOwn, Makes, asking, taking}
use Rattle.command_card.specs.State.{CardState, For_fetch, For_repeat, Hand, Nothing_left, announcing, fetch_left, handed, pending_for}
use Rattle.command_card.specs.Meaning.{Answers, Asks, Brings, CarriesAsked, CarriesTaken, Does, DoesBy, Hands, Takes, kind_in}
use Rattle.command_card.specs.Told.{AreAgreed, told, unwanted_part, wanted_part}
use Rattle.command_card.specs.Alike.{GathersAtT0}
use Rattle.command_card.proofs.HandLemmas.{enough, fewer, handed_enough, handed_fewer}
use Rattle.command_card.proofs.AnswerLemmas.{kind_by, same_as_itself}
use Rattle.command_card.proofs.WholeLemmas.{Among, AreAmong, Fits, all_of, count_of_byte, count_told, end_facts, fetch_facts, fits_le, fits_none, is_repeated, last_part, more_part, no_bytes, none_corrected, not_repeated, own_status, plain_is, sent_if, take_whole, drop_whole, wants_fewer}

-- the plan of the next TPDU, and those after it
abbrev pub head_of : List Course → Course
head_of [] = plain
head_of (p ∷ plans) = p

abbrev pub rest_of : List Course → List Course
rest_of [] = []
rest_of (p ∷ plans) = plans

head_among : (all plans : List Course) → AreAmong all plans → Among all (head_of plans).cut
head_among all [] are = ((omega arith, omega arith), plain_is all)
head_among all (p ∷ plans) are = are.0

rest_among : (all plans : List Course) → AreAmong all plans → AreAmong all (rest_of plans)
rest_among all [] are = tt
rest_among all (p ∷ plans) are = are.1

pub follow_more : (d : Dialogue) (ds : List Dialogue) (plans : List Course)
    → Follows d (head_of plans) → FollowInTurn ds (rest_of plans) → FollowInTurn (d ∷ ds) plans
follow_more d ds [] it others = (it, others)
follow_more d ds (p ∷ plans) it others = (it, others)

-- a dialogue in the segments of a plan
abbrev pub made : Header → ℕ → Direction → List ℕ → StatusWord → Course → Dialogue
made h p3 direction moved status plan = record {
  body = record {
    header = h;
    p3 = p3;
    direction = direction;
    segments = segments_of plan.steps (length moved);
    moved = moved;
  };
  status = status;
}

moves_none : (steps : List Step) (n : ℕ) → all_moves (segments_of steps 0) n ≡ 0
moves_none [] n = refl
moves_none (Null ∷ steps) n = omega (arith, moves_none steps (n - 0))
moves_none (One ∷ steps) n = moves_none steps n
moves_none (All ∷ steps) n = moves_none steps n

moves_all : (steps : List Step) (n : ℕ) → all_moves (segments_of steps n) n ≡ n
moves_all [] zero = refl
moves_all [] (suc n) = omega arith
moves_all (Null ∷ steps) n =
    let same : n - 0 ≡ n = omega arith in rw same (omega (arith, moves_all steps n))
moves_all (One ∷ steps) zero = moves_all steps zero
moves_all (One ∷ steps) (suc n) =
    let same : suc n - 1 ≡ n = omega arith in rw same (omega (arith, moves_all steps n))
moves_all (All ∷ steps) zero = moves_all steps zero
moves_all (All ∷ steps) (suc n) =
    let none : suc n - suc n ≡ 0 = omega arith in rw none (omega (arith, moves_all steps 0))

abbrev AllOrNone : Direction → ℕ → List ℕ → Type 0
AllOrNone x p3 moved = (moved ≡ []) ⊎ (length moved ≡ foreseen x p3)

moved_so : (x : Direction) (p3 : ℕ) (steps : List Step) (xs : List ℕ) → AllOrNone x p3 xs
    → length xs ≡ all_moves (segments_of steps (length xs)) (foreseen x p3)
moved_so x p3 steps xs (inl none) =
    let zero_is : length xs ≡ 0 = ap length none in
    subst (λ n. n ≡ all_moves (segments_of steps n) (foreseen x p3)) (sym zero_is)
    (sym (moves_none steps (foreseen x p3)))
moved_so x p3 steps xs (inr whole) =
    subst (λ n. length xs ≡ all_moves (segments_of steps (length xs)) n) whole
    (sym (moves_all steps (length xs)))

pub dialogue_so : (h : Header) (p3 : ℕ) (x : Direction) (moved : List ℕ) (status : StatusWord)
    (plan : Course) → ins_is_valid h.ins ≡ true → AllOrNone x p3 moved → IsStatusWord status
    → IsDialogue (made h p3 x moved status plan)
dialogue_so h p3 x moved status plan valid is word = record {
  moved_by_segments = moved_so x p3 plan.steps moved is;
  is_status = word;
  only_nulls = λ invalid. let no : true ≡ false = sym valid ∙ invalid in absurd (cc);
}

pub follows_so : (h : Header) (p3 : ℕ) (x : Direction) (moved : List ℕ) (status : StatusWord)
    (plan : Course) → AllOrNone x p3 moved → Follows (made h p3 x moved status plan) plan
follows_so h p3 x moved status plan is = record { all_or_nothing = is; step_by_step = refl }

asks_so : (h : Header) (n : ℕ) (moved : List ℕ) (status : StatusWord) (plan : Course) → 1 ≤ n
    → n ≤ 256 → AsksBy h n (made h (n % 256) FromCard moved status plan)
asks_so h n moved status plan some few = record {
  header_is = refl;
  from_card = refl;
  counts = count_told n some few;
  is_byte = omega arith;
}

-- the status words of an exchange
unwanted_none : (w : Wanted) → unwanted_part w [] ≡ []
unwanted_none Everything = refl
unwanted_none (Bytes k) = no_bytes (drop k []) (omega (arith, length-drop {A = ℕ} k []))

any_cut : (rest : List ℕ) (own : StatusWord) (cut : ℕ) → IsStatusWord (announcing rest own 256)
    → IsStatusWord (announcing rest own cut)
any_cut [] own cut word = word
any_cut (b ∷ rest) own cut word = (refl, omega arith)

word_of : (w : Wanted) (rest : List ℕ) (own : StatusWord) (cut : ℕ)
    → IsStatusWord (announcing (unwanted_part w rest) own 256)
    → IsStatusWord (announcing rest own cut)
word_of w [] own cut word =
    subst (λ xs. IsStatusWord (announcing xs own 256)) (unwanted_none w) word
word_of w (b ∷ rest) own cut word = (refl, omega arith)

-- the first `n` bytes, and the others
taken_all : (n : ℕ) (rest : List ℕ) → 1 ≤ n → n ≤ 256 → n ≤ length rest
    → AllOrNone FromCard (n % 256) (take n rest)
taken_all n rest some few within =
    let long : length (take n rest) ≡ n = omega (arith, length-take n rest, within) in
    inr (long ∙ sym (count_told n some few))

step_parts : (w : Wanted) (front rest : List ℕ) → Fits (length front) w
    → ((front ++ []) ++ wanted_part (less w (length (front ++ []))) rest
    ≡ wanted_part w (front ++ rest))
    × (unwanted_part (less w (length (front ++ []))) rest ≡ unwanted_part w (front ++ rest))
step_parts w front rest fits =
    subst (λ xs. (xs ++ wanted_part (less w (length xs)) rest ≡ wanted_part w (front ++ rest))
    × (unwanted_part (less w (length xs)) rest ≡ unwanted_part w (front ++ rest)))
    (sym (append-nil front)) (more_part w front rest fits)

fetch_parts : (w : Wanted) (n : ℕ) (rest : List ℕ) → n ≤ length rest → Fits n w
    → ((take n rest ++ []) ++ wanted_part (less w (length (take n rest ++ []))) (drop n rest)
    ≡ wanted_part w rest)
    × (unwanted_part (less w (length (take n rest ++ []))) (drop n rest) ≡ unwanted_part w rest)
fetch_parts w n rest within fits =
    let long : length (take n rest) ≡ n = omega (arith, length-take n rest, within) in
    let front : List ℕ = take n rest ++ [] in
    subst (λ xs. (front ++ wanted_part (less w (length front)) (drop n rest) ≡ wanted_part w xs)
    × (unwanted_part (less w (length front)) (drop n rest) ≡ unwanted_part w xs))
    (take-append-drop n rest)
    (step_parts w (take n rest) (drop n rest) (subst (λ k. Fits k w) (sym long) fits))

opens_sending : (h : Header) (content : List ℕ) (le : Option ℕ) (d : Dialogue)
    → (content ≡ [] → le ≡ None) → SendsFrom h content d
    → Opens (record { header = h; content = content; le = le }) d
opens_sending h [] None d none sends = sends
opens_sending h [] (Some n) d none sends = let no : Some n ≡ None = none refl in absurd (cc)
opens_sending h (b ∷ content) le d none sends = sends

opens_asking : (h : Header) (content : List ℕ) (le : Option ℕ) (n : ℕ) (d : Dialogue)
    → content ≡ [] → le ≡ Some n → AsksBy h n d
    → Opens (record { header = h; content = content; le = le }) d
opens_asking h content le n d none asks it =
    subst (λ (m : Option ℕ). Opens (record { header = h; content = content; le = m }) d) (sym asks)
    (subst (λ (k : List ℕ). Opens (record { header = h; content = k; le = Some n }) d) (sym none)
    it)

module _ {S : Type 0} (takes : S → Header → Bool) (Act : S → Did → S → Type 0)
    (all : List Course) where
  abbrev Meant : CardState S → ℕ → Tpdu → CardState S → Type 0
  Meant old cut t new = Does takes Act old cut t new

  pub runs_more : (old mid new : CardState S) (d : Dialogue) (ds : List Dialogue)
      (plans : List Course) → Meant old (head_of plans).cut (tpdu_of d) mid
      → Runs Meant mid ds (rest_of plans) new → Runs Meant old (d ∷ ds) plans new
  runs_more old mid new d ds [] does others = (mid, does, others)
  runs_more old mid new d ds (p ∷ plans) does others = (mid, does, others)

  -- these bytes are pending for GET RESPONSE
  abbrev pub pending : S → List ℕ → StatusWord → CardState S
  pending app rest own = record { app = app; left = fetch_left rest own }

  abbrev fetching : ℕ → List ℕ → StatusWord → Course → Dialogue
  fetching n rest own plan =
      made get_response (n % 256) FromCard (take n rest) (announcing (drop n rest) own plan.cut)
      plan

  fetch_does : (app : S) (bytes : List ℕ) (own : StatusWord) (n : ℕ) (plan : Course) → 1 ≤ n
      → n ≤ length bytes → n ≤ 256
      → Meant (pending app bytes own) plan.cut (tpdu_of (fetching n bytes own plan))
      (pending app (drop n bytes) own)
  fetch_does app [] own n plan some within few = absurd (omega (arith, some, within))
  fetch_does app (b ∷ bytes) own n plan some within few =
      let kept = For_fetch (b ∷ bytes) own in
      let is : handed kept (b ∷ bytes) own (count (n % 256)) plan.cut
      ≡ enough (b ∷ bytes) own n plan.cut =
      ap (λ m. handed kept (b ∷ bytes) own m plan.cut) (count_told n some few)
      ∙ handed_enough kept (b ∷ bytes) own n plan.cut (omega arith) within in
      let brings : Brings (tpdu_of (fetching n (b ∷ bytes) own plan))
      (fetch_left (drop n (b ∷ bytes)) own) (enough (b ∷ bytes) own n plan.cut) =
      record { received_is = refl; status_is = refl; left_is = refl } in
      record {
        same = refl;
        none_sent = refl;
        brings = subst (λ o. Brings (tpdu_of (fetching n (b ∷ bytes) own plan))
            (fetch_left (drop n (b ∷ bytes)) own) o) (sym is) brings;
      }

  -- The units after `u`, up to the end of the exchange. After `u` the bytes `rest` are pending.
  record Onward (o : Opening) (w : Wanted) (u : UnitOf) (app : S) (rest : List ℕ)
      (own : StatusWord) (plans : List Course) : Type 0 where
    others : List UnitOf
    before : List UnitOf
    last : UnitOf
    opening : Opening
    left : Wanted
    cut : ℕ
    in_range : Among all cut
    units_are : u ∷ others ≡ before ++ last ∷ []
    followed : AreFollowed o w before opening left
    opens : OpensWith opening (first_of last)
    is_unit : IsUnit left last
    ends : fetched_after (after_unit left last) (last_of last).status ≡ None
    status_is : (last_of last).status ≡ announcing (unwanted_part (after_unit w u) rest) own cut
    gathered : flat_map unit_data others ≡ wanted_part (after_unit w u) rest
    runs : Runs Meant (pending app rest own) (flat_map dialogues_of others) plans
        (pending app (unwanted_part (after_unit w u) rest) own)
    follow : FollowInTurn (flat_map dialogues_of others) plans
    are : IsStatusWord (announcing (unwanted_part (after_unit w u) rest) own 256)
        → AllByRecursion IsDialogue (flat_map dialogues_of others)

  -- nothing more is fetched
  no_more : (o : Opening) (w : Wanted) (u : UnitOf) (app : S) (rest : List ℕ) (own : StatusWord)
      (cut : ℕ) (plans : List Course) → Among all cut → OpensWith o (first_of u) → IsUnit w u
      → (last_of u).status ≡ announcing rest own cut
      → fetched_after (after_unit w u) (announcing rest own cut) ≡ None
      → Onward o w u app rest own plans
  no_more o w u app rest own cut plans in_range opens unit status_is ends =
      let x : Wanted = after_unit w u in
      let facts = end_facts rest own cut (after_unit w u) ends in
      let done : (rest ≡ []) ⊎ (less (after_unit w u) 0 ≡ Bytes 0) = elim facts [
        | inl none ↦ inl none
        | inr none ↦ inr (ap (λ v. less v 0) none)
      ] in
      let part = last_part (after_unit w u) [] rest (fits_none (after_unit w u)) done in
      record {
        others = [];
        before = [];
        last = u;
        opening = o;
        left = w;
        cut = cut;
        in_range = in_range;
        units_are = refl;
        followed = (refl, refl);
        opens = opens;
        is_unit = unit;
        ends = ap (λ s. fetched_after (after_unit w u) s) status_is ∙ ends;
        status_is = status_is ∙ ap (λ xs. announcing xs own cut) part.1;
        gathered = part.0;
        runs = ap (λ xs. pending app xs own) (sym part.1);
        follow = tt;
        are = λ word. tt;
      }

  -- one fetch more, and what follows it
  one_more : (o : Opening) (w : Wanted) (u : UnitOf) (app : S) (rest : List ℕ) (own : StatusWord)
      (n : ℕ) (plan : Course) (plans : List Course) → plan ≡ head_of plans → IsOwn own
      → IsFollowed o w u n → 1 ≤ n → n ≤ length rest → n ≤ 256 → Fits n (after_unit w u)
      → Onward (By_fetch n) (after_unit w u) (Single (fetching n rest own plan)) app (drop n rest)
      own (rest_of plans)
      → Onward o w u app rest own plans
  one_more o w u app rest own n plan plans plan_is is followed some within few fits r =
      let d : Dialogue = fetching n rest own plan in
      let part = fetch_parts (after_unit w u) n rest within fits in
      let moved = taken_all n rest some few within in
      record {
        others = Single (fetching n rest own plan) ∷ r.others;
        before = u ∷ r.before;
        last = r.last;
        opening = r.opening;
        left = r.left;
        cut = r.cut;
        in_range = r.in_range;
        units_are = ap (λ us. u ∷ us) r.units_are;
        followed = (n, followed, r.followed);
        opens = r.opens;
        is_unit = r.is_unit;
        ends = r.ends;
        status_is = r.status_is ∙ ap (λ xs. announcing xs own r.cut) part.1;
        gathered = ap (λ xs. (take n rest ++ []) ++ xs) r.gathered ∙ part.0;
        runs = runs_more (pending app rest own) (pending app (drop n rest) own)
            (pending app (unwanted_part (after_unit w u) rest) own) d
            (flat_map dialogues_of r.others) plans
            (subst (λ (p : Course). Meant (pending app rest own) p.cut
            (tpdu_of (fetching n rest own plan)) (pending app (drop n rest) own)) plan_is
            (fetch_does app rest own n plan some within few))
            (subst (λ xs. Runs Meant (pending app (drop n rest) own)
            (flat_map dialogues_of r.others) (rest_of plans) (pending app xs own)) part.1 r.runs);
        follow = follow_more d (flat_map dialogues_of r.others) plans
            (subst (λ (p : Course). Follows (fetching n rest own plan) p) plan_is
            (follows_so get_response (n % 256) FromCard (take n rest)
            (announcing (drop n rest) own plan.cut) plan moved)) r.follow;
        are = λ word.
            let last_word =
            subst (λ xs. IsStatusWord (announcing xs own 256)) (sym part.1) word in (
              dialogue_so get_response (n % 256) FromCard (take n rest)
                  (announcing (drop n rest) own plan.cut) plan refl moved
                  (word_of _ (drop n rest) own plan.cut last_word),
              r.are last_word,
            );
      }

  by_status : (o : Opening) (w : Wanted) (u : UnitOf) (app : S) (rest : List ℕ)
      (own : StatusWord) (cut : ℕ) (plans : List Course) → IsOwn own → Among all cut
      → OpensWith o (first_of u) → IsUnit w u → BringsSome o u
      → (last_of u).status ≡ announcing rest own cut
      → ((n : ℕ) → 1 ≤ n → n ≤ length rest → n ≤ 256
      → Onward (By_fetch n) (after_unit w u) (Single (fetching n rest own (head_of plans))) app
      (drop n rest) own (rest_of plans))
      → Onward o w u app rest own plans
  by_status o w u app rest own cut plans is in_range opens unit brings status_is goes =
      split (fetched_after (after_unit w u) (announcing rest own cut)) refl
    where
      split : (v : Option ℕ) → fetched_after (after_unit w u) (announcing rest own cut) ≡ v
          → Onward o w u app rest own plans
      split None e = no_more o w u app rest own cut plans in_range opens unit status_is e
      split (Some n) e =
          let (some, within, few, fits) =
          fetch_facts rest own cut n (after_unit w u) is in_range.0 e in
          let followed : IsFollowed o w u n = record {
            opens = opens;
            is_unit = unit;
            brings = brings;
            fetched = ap (λ s. fetched_after (after_unit w u) s) status_is ∙ e;
          } in
          one_more o w u app rest own n (head_of plans) plans refl is followed some within few fits
          (goes n some within few)

  -- a unit that fetches
  fetch_is_unit : (w : Wanted) (n : ℕ) (rest : List ℕ) (own : StatusWord) (plan : Course)
      → IsOwn own → IsUnit w (Single (fetching n rest own plan))
  fetch_is_unit w n rest own plan is = not_repeated w (fetching n rest own plan)
      (none_corrected (drop n rest) own plan.cut is)

  fetch_brings : (n : ℕ) (rest : List ℕ) (own : StatusWord) (plan : Course) → 1 ≤ n
      → n ≤ length rest → BringsSome (By_fetch n) (Single (fetching n rest own plan))
  fetch_brings n rest own plan some within nothing =
      let full : length (take n rest ++ []) ≡ n =
      omega (arith, length-take n rest, within, length-append (take n rest) []) in
      omega (arith, full, some, ap length nothing)

  onward : (fuel : ℕ) (o : Opening) (w : Wanted) (u : UnitOf) (app : S) (rest : List ℕ)
      (own : StatusWord) (cut : ℕ) (plans : List Course) → length rest ≤ fuel → IsOwn own
      → Among all cut → AreAmong all plans → OpensWith o (first_of u) → IsUnit w u
      → BringsSome o u → (last_of u).status ≡ announcing rest own cut
      → Onward o w u app rest own plans
  onward zero o w u app rest own cut plans long is in_range have opens unit brings status_is =
      by_status o w u app rest own cut plans is in_range opens unit brings status_is
      (λ n some within few. absurd (omega (arith, long, some, within)))
  onward (suc fuel) o w u app rest own cut plans long is in_range have opens unit brings status_is =
      by_status o w u app rest own cut plans is in_range opens unit brings status_is
      (λ n some within few. onward fuel (By_fetch n) (after_unit w u)
      (Single (fetching n rest own (head_of plans))) app (drop n rest) own (head_of plans).cut
      (rest_of plans) (omega (arith, long, some, within, length-drop n rest)) is
      (head_among all plans have) (rest_among all plans have)
      (asks_so get_response n (take n rest) (announcing (drop n rest) own (head_of plans).cut)
      (head_of plans) some few)
      (fetch_is_unit (after_unit w u) n rest own (head_of plans) is)
      (fetch_brings n rest own (head_of plans) some within) refl)

  -- The first unit: the application has made its step, and the bytes `rest` are pending.
  record Started (c : Command) (first : CardState S) (bytes : List ℕ) (own : StatusWord) (app : S)
      (plans : List Course) : Type 0 where
    u : UnitOf
    front : List ℕ
    rest : List ℕ
    cut : ℕ
    later : List Course
    bytes_are : bytes ≡ front ++ rest
    fits : Fits (length front) (wanted_by c.le)
    data_is : unit_data u ≡ front ++ []
    in_range : Among all cut
    have : AreAmong all later
    opens : Opens c (first_of u)
    is_unit : IsUnit (wanted_by c.le) u
    status_is : (last_of u).status ≡ announcing rest own cut
    runs : (ds : List Dialogue) (new : CardState S) → Runs Meant (pending app rest own) ds later new
        → Runs Meant first (dialogues_of u ++ ds) plans new
    follow : (ds : List Dialogue) → FollowInTurn ds later
        → FollowInTurn (dialogues_of u ++ ds) plans
    are : (ds : List Dialogue) → IsStatusWord (announcing rest own 256)
        → AllByRecursion IsDialogue ds → AllByRecursion IsDialogue (dialogues_of u ++ ds)

  -- data to the card
  start_taking : (c : Command) (first : CardState S) (bytes : List ℕ) (own : StatusWord) (app : S)
      (plans : List Course) → AreAgreed takes first c → takes first.app c.header ≡ true → IsOwn own
      → AreAmong all plans → Makes Act first.app (taking c.header c.content) bytes own app
      → Started c first bytes own app plans
  start_taking c first bytes own app plans agreed taking_is is have makes =
      let plan : Course = head_of plans in
      let p3 : ℕ = length c.content in
      let status : StatusWord = announcing bytes own (head_of plans).cut in
      let d : Dialogue = made c.header (length c.content) ToCard c.content
      (announcing bytes own (head_of plans).cut) (head_of plans) in
      let kind : kind_in takes first c.header (length c.content) ≡ Takes =
      kind_by _ true _ None _ false _ true agreed.valid (agreed.none_pending (length c.content))
      agreed.no_fetch taking_is in
      let carries : CarriesTaken Act first (head_of plans).cut (tpdu_of d) (pending app bytes own) =
      record {
        response = bytes;
        status = own;
        makes = makes;
        counts = refl;
        brings = record { received_is = refl; status_is = refl; left_is = refl };
      } in
      let does : Meant first (head_of plans).cut (tpdu_of d) (pending app bytes own) =
      subst (λ k. DoesBy Act first (head_of plans).cut (tpdu_of d) (pending app bytes own) k)
      (sym kind) carries in
      let moved : AllOrNone ToCard (length c.content) c.content = inr refl in
      record {
        u = Single d;
        front = [];
        rest = bytes;
        cut = (head_of plans).cut;
        later = rest_of plans;
        bytes_are = refl;
        fits = fits_none (wanted_by c.le);
        data_is = refl;
        in_range = head_among all plans have;
        have = rest_among all plans have;
        opens = opens_sending c.header c.content c.le d (agreed.no_le taking_is)
            (record {
              header_is = refl;
              to_card = refl;
              counts = refl;
              sends = ([], sym (append-nil c.content));
            });
        is_unit = not_repeated (wanted_by c.le) d
            (none_corrected bytes own (head_of plans).cut is);
        status_is = refl;
        runs = λ ds new others. runs_more first (pending app bytes own) new d ds plans does others;
        follow = λ ds others. follow_more d ds plans
            (follows_so c.header (length c.content) ToCard c.content
            (announcing bytes own (head_of plans).cut) (head_of plans) moved) others;
        are = λ ds word others. (
          dialogue_so c.header (length c.content) ToCard c.content
              (announcing bytes own (head_of plans).cut) (head_of plans) agreed.valid moved
              (any_cut bytes own (head_of plans).cut word),
          others,
        );
      }

  -- the step of the application at the header, which asks for `n` bytes
  asked_so : (c : Command) (first : CardState S) (bytes : List ℕ) (own : StatusWord) (app : S)
      (n : ℕ) (d : Dialogue) (new : CardState S) (cut : ℕ) → AreAgreed takes first c
      → takes first.app c.header ≡ false → d.body.header ≡ c.header
      → d.body.direction ≡ FromCard → count d.body.p3 ≡ n
      → Makes Act first.app (asking c.header n) bytes own app → new.app ≡ app
      → Brings (tpdu_of d) new.left (handed (For_repeat c.header bytes own) bytes own n cut)
      → Meant first cut (tpdu_of d) new
  asked_so c first bytes own app n d new cut agreed asking_is header_is from_card counts makes same
      brings =
      let kind : kind_in takes first d.body.header d.body.p3 ≡ Asks =
      ap (λ h. kind_in takes first h d.body.p3) header_is
      ∙ kind_by _ true _ None _ false _ false agreed.valid (agreed.none_pending d.body.p3)
      agreed.no_fetch asking_is in
      let B : ℕ → Header → Type 0 = λ k h. Brings (tpdu_of d) new.left
      (handed (For_repeat h bytes own) bytes own k cut) in
      let M : Header → ℕ → S → Type 0 = λ h k a. Makes Act first.app (asking h k) bytes own a in
      let carries : CarriesAsked Act first cut (tpdu_of d) new = record {
        response = bytes;
        status = own;
        makes = subst (λ h. M h (count d.body.p3) new.app) (sym header_is)
            (subst (λ k. M c.header k new.app) (sym counts)
            (subst (λ a. M c.header n a) (sym same) makes));
        none_sent = ap (λ x. sent_if d x) from_card;
        brings = subst (λ h. B (count d.body.p3) h) (sym header_is)
            (subst (λ k. B k c.header) (sym counts) brings);
      } in
      subst (λ k. DoesBy Act first cut (tpdu_of d) new k) (sym kind) carries

  -- an empty response, or as many bytes as are asked for
  start_once : (c : Command) (first : CardState S) (front rest : List ℕ) (own : StatusWord)
      (app : S) (n : ℕ) (plans : List Course) → AreAgreed takes first c
      → takes first.app c.header ≡ false → c.le ≡ Some n → 1 ≤ n → n ≤ 256 → length front ≤ n
      → AllOrNone FromCard (n % 256) front → IsOwn own → AreAmong all plans
      → Makes Act first.app (asking c.header n) (front ++ rest) own app
      → handed (For_repeat c.header (front ++ rest) own) (front ++ rest) own n (head_of plans).cut
      ≡ record {
        received = front;
        status = announcing rest own (head_of plans).cut;
        left = fetch_left rest own;
      }
      → Started c first (front ++ rest) own app plans
  start_once c first front rest own app n plans agreed asking_is le_is some few short moved is have
      makes handed_is =
      let status : StatusWord = announcing rest own (head_of plans).cut in
      let d : Dialogue = made c.header (n % 256) FromCard front
      (announcing rest own (head_of plans).cut) (head_of plans) in
      let asks : AsksBy c.header n d = asks_so c.header n front
      (announcing rest own (head_of plans).cut) (head_of plans) some few in
      let brings : Brings (tpdu_of d) (fetch_left rest own) (record {
        received = front;
        status = announcing rest own (head_of plans).cut;
        left = fetch_left rest own;
      }) = record { received_is = refl; status_is = refl; left_is = refl } in
      let does : Meant first (head_of plans).cut (tpdu_of d) (pending app rest own) =
      asked_so c first (front ++ rest) own app n d (pending app rest own) (head_of plans).cut agreed
      asking_is refl refl (count_told n some few) makes refl
      (subst (λ o. Brings (tpdu_of d) (fetch_left rest own) o) (sym handed_is) brings) in
      record {
        u = Single d;
        front = front;
        rest = rest;
        cut = (head_of plans).cut;
        later = rest_of plans;
        bytes_are = refl;
        fits = subst (λ l. Fits (length front) (wanted_by l)) (sym le_is)
            (fits_le (length front) n short);
        data_is = refl;
        in_range = head_among all plans have;
        have = rest_among all plans have;
        opens = opens_asking c.header c.content c.le n d (agreed.no_data asking_is) le_is asks;
        is_unit = not_repeated (wanted_by c.le) d (none_corrected rest own (head_of plans).cut is);
        status_is = refl;
        runs = λ ds new others. runs_more first (pending app rest own) new d ds plans does others;
        follow = λ ds others. follow_more d ds plans
            (follows_so c.header (n % 256) FromCard front
            (announcing rest own (head_of plans).cut) (head_of plans) moved) others;
        are = λ ds word others. (
          dialogue_so c.header (n % 256) FromCard front
              (announcing rest own (head_of plans).cut) (head_of plans) agreed.valid moved
              (any_cut rest own (head_of plans).cut word),
          others,
        );
      }

  -- the header again, with P3 as 6CXX said
  repeat_does : (h : Header) (bytes : List ℕ) (own : StatusWord) (app : S) (plan : Course)
      → ins_is_valid h.ins ≡ true → 1 ≤ length bytes
      → Meant (record { app = app; left = For_repeat h bytes own }) plan.cut
      (tpdu_of (made h (length bytes) FromCard bytes own plan)) (pending app [] own)
  repeat_does h bytes own app plan valid some =
      let old : CardState S = record { app = app; left = For_repeat h bytes own } in
      let hand : Hand = record { bytes = bytes; status = own } in
      let e : Dialogue = made h (length bytes) FromCard bytes own plan in
      let waits : pending_for (For_repeat h bytes own) h (length bytes) ≡ Some hand =
      ap (λ (v : Bool). if v then Some hand else None)
      (and_from _ _ (same_as_itself h) (eq-eqb (length bytes) (length bytes) refl)) in
      let kind : kind_in takes old h (length bytes) ≡ Hands hand =
      kind_by _ true _ (Some hand) _ _ _ _ valid waits refl refl in
      let kept = For_repeat h bytes own in
      let is : handed kept bytes own (count (length bytes)) plan.cut
      ≡ enough bytes own (length bytes) plan.cut =
      ap (λ m. handed kept bytes own m plan.cut) (count_of_byte (length bytes) some)
      ∙ handed_enough kept bytes own (length bytes) plan.cut some (omega arith) in
      let brings : Brings (tpdu_of e) Nothing_left (enough bytes own (length bytes) plan.cut) =
      record {
        received_is = sym (take_whole bytes);
        status_is = ap (λ xs. announcing xs own plan.cut) (sym (drop_whole bytes));
        left_is = ap (λ xs. fetch_left xs own) (sym (drop_whole bytes));
      } in
      let answers : Answers old (tpdu_of e) (pending app [] own)
      (handed kept bytes own (count (length bytes)) plan.cut) = record {
        same = refl;
        none_sent = refl;
        brings = subst (λ o. Brings (tpdu_of e) Nothing_left o) (sym is) brings;
      } in
      subst (λ k. DoesBy Act old plan.cut (tpdu_of e) (pending app [] own) k) (sym kind) answers

  -- fewer bytes than are asked for
  start_twice : (c : Command) (first : CardState S) (bytes : List ℕ) (own : StatusWord) (app : S)
      (n : ℕ) (plans : List Course) → AreAgreed takes first c → takes first.app c.header ≡ false
      → c.le ≡ Some n → 1 ≤ n → n ≤ 256 → 1 ≤ length bytes → length bytes < n
      → AreAmong all plans → Makes Act first.app (asking c.header n) bytes own app
      → Started c first bytes own app plans
  start_twice c first bytes own app n plans agreed asking_is le_is some few some_bytes fewer_bytes
      have makes =
      let p : Course = head_of plans in
      let q : Course = head_of (rest_of plans) in
      let d : Dialogue = made c.header (n % 256) FromCard [] (0x6C, length bytes) (head_of plans) in
      let e : Dialogue = made c.header (length bytes) FromCard bytes own
      (head_of (rest_of plans)) in
      let mid : CardState S = record { app = app; left = For_repeat c.header bytes own } in
      let later = rest_among all plans have in
      let asks : AsksBy c.header n d =
      asks_so c.header n [] (0x6C, length bytes) (head_of plans) some few in
      let again : AsksBy c.header (length bytes) e = record {
        header_is = refl;
        from_card = refl;
        counts = count_of_byte (length bytes) some_bytes;
        is_byte = omega (arith, fewer_bytes, few);
      } in
      let brings : Brings (tpdu_of d) (For_repeat c.header bytes own)
      (fewer (For_repeat c.header bytes own) bytes) =
      record { received_is = refl; status_is = refl; left_is = refl } in
      let does : Meant first (head_of plans).cut (tpdu_of d) mid =
      asked_so c first bytes own app n d mid (head_of plans).cut agreed asking_is refl refl
      (count_told n some few) makes refl
      (subst (λ o. Brings (tpdu_of d) (For_repeat c.header bytes own) o)
      (sym (handed_fewer (For_repeat c.header bytes own) bytes own n (head_of plans).cut some_bytes
      fewer_bytes)) brings) in
      let wants = subst (λ l. wants_at_least (length bytes) (less (wanted_by l) 0) ≡ true)
      (sym le_is) (wants_fewer (length bytes) n (omega (arith, fewer_bytes))) in
      let moved : AllOrNone FromCard (length bytes) bytes =
      inr (sym (count_of_byte (length bytes) some_bytes)) in
      record {
        u = Repeated d e;
        front = bytes;
        rest = [];
        cut = (head_of (rest_of plans)).cut;
        later = rest_of (rest_of plans);
        bytes_are = sym (append-nil bytes);
        fits = subst (λ l. Fits (length bytes) (wanted_by l)) (sym le_is)
            (fits_le (length bytes) n (omega (arith, fewer_bytes)));
        data_is = refl;
        in_range = head_among all (rest_of plans) later;
        have = rest_among all (rest_of plans) later;
        opens = opens_asking c.header c.content c.le n d (agreed.no_data asking_is) le_is asks;
        is_unit = (
          length bytes,
          is_repeated (wanted_by c.le) d (length bytes) refl refl wants
              (ap (λ k. Some k) (count_of_byte (length bytes) some_bytes)),
          again,
        );
        status_is = refl;
        runs = λ ds new others. runs_more first mid new d (e ∷ ds) plans does
            (runs_more mid (pending app [] own) new e ds (rest_of plans)
            (repeat_does c.header bytes own app (head_of (rest_of plans)) agreed.valid some_bytes)
            others);
        follow = λ ds others. follow_more d (e ∷ ds) plans
            (follows_so c.header (n % 256) FromCard [] (0x6C, length bytes) (head_of plans)
            (inl refl))
            (follow_more e ds (rest_of plans)
            (follows_so c.header (length bytes) FromCard bytes own (head_of (rest_of plans)) moved)
            others);
        are = λ ds word others. (
          dialogue_so c.header (n % 256) FromCard [] (0x6C, length bytes) (head_of plans)
              agreed.valid (inl refl) (refl, omega (arith, fewer_bytes, few)),
          (
            dialogue_so c.header (length bytes) FromCard bytes own (head_of (rest_of plans))
                agreed.valid moved word,
            others,
          ),
        );
      }

  start_asking : (c : Command) (first : CardState S) (bytes : List ℕ) (own : StatusWord) (app : S)
      (n : ℕ) (plans : List Course) → AreAgreed takes first c → takes first.app c.header ≡ false
      → c.le ≡ Some n → 1 ≤ n → n ≤ 256 → IsOwn own → AreAmong all plans
      → Makes Act first.app (asking c.header n) bytes own app
      → Started c first bytes own app plans
  start_asking c first [] own app n plans agreed asking_is le_is some few is have makes =
      start_once c first [] [] own app n plans agreed asking_is le_is some few (omega arith)
      (inl refl) is have makes refl
  start_asking c first (b ∷ bytes) own app n plans agreed asking_is le_is some few is have makes =
      split (nat_lt (length (b ∷ bytes)) n) refl
    where
      split : (v : Bool) → nat_lt (length (b ∷ bytes)) n ≡ v
          → Started c first (b ∷ bytes) own app plans
      split true e = start_twice c first (b ∷ bytes) own app n plans agreed asking_is le_is some few
          (omega arith) (ltb-true (length (b ∷ bytes)) n e) have makes
      split false e =
          let many = ltb-false (length (b ∷ bytes)) n e in
          let whole = take-append-drop n (b ∷ bytes) in
          let made_is = subst (λ xs. Makes Act first.app (asking c.header n) xs own app) (sym whole)
          makes in
          let handed_is = subst (λ xs. handed (For_repeat c.header xs own) xs own n
          (head_of plans).cut ≡ enough (b ∷ bytes) own n (head_of plans).cut) (sym whole)
          (handed_enough (For_repeat c.header (b ∷ bytes) own) (b ∷ bytes) own n
          (head_of plans).cut (omega arith) many) in
          subst (λ xs. Started c first xs own app plans) whole
          (start_once c first (take n (b ∷ bytes)) (drop n (b ∷ bytes)) own app n plans agreed
          asking_is le_is some few (omega (arith, length-take n (b ∷ bytes)))
          (taken_all n (b ∷ bytes) some few many) is have made_is handed_is)

  started : (c : Command) (first : CardState S) (bytes : List ℕ) (own : StatusWord) (app : S)
      (plans : List Course) → AreAgreed takes first c → IsOwn own → AreAmong all plans
      → Makes Act first.app (told (takes first.app c.header) c) bytes own app
      → Started c first bytes own app plans
  started c first bytes own app plans agreed is have makes =
      split (takes first.app c.header) refl
    where
      split : (v : Bool) → takes first.app c.header ≡ v → Started c first bytes own app plans
      split true e = start_taking c first bytes own app plans agreed e is have
          (subst (λ v. Makes Act first.app (told v c) bytes own app) e makes)
      split false e =
          let (n, le_is, some, few) = agreed.has_le e in
          start_asking c first bytes own app n plans agreed e le_is some few is have
          (subst (λ (m : Option ℕ). Makes Act first.app (asking c.header (unwrap_or m 256)) bytes
          own app) le_is (subst (λ v. Makes Act first.app (told v c) bytes own app) e makes))

  -- the whole exchange
  whole_exchange : (c : Command) (first : CardState S) (bytes : List ℕ) (own : StatusWord)
      (app : S) (plans : List Course) → IsOwn own
      → IsStatusWord (announcing (unwanted_part (wanted_by c.le) bytes) own 256)
      → Started c first bytes own app plans
      → (cut : ℕ) × Among all cut × GathersAtT0 takes Act plans first c
      (wanted_part (wanted_by c.le) bytes)
      (announcing (unwanted_part (wanted_by c.le) bytes) own cut)
      (pending app (unwanted_part (wanted_by c.le) bytes) own)
  whole_exchange c first bytes own app plans is word s =
      let w : Wanted = wanted_by c.le in
      let o = onward (length s.rest) (By_command c) (wanted_by c.le) s.u app s.rest own s.cut
      s.later (omega arith) is s.in_range s.have s.opens s.is_unit tt s.status_is in
      let after : after_unit (wanted_by c.le) s.u
      ≡ less (wanted_by c.le) (length (s.front ++ [])) =
      ap (λ xs. less (wanted_by c.le) (length xs)) s.data_is in
      let part = step_parts (wanted_by c.le) s.front s.rest s.fits in
      let rest_is : unwanted_part (after_unit (wanted_by c.le) s.u) s.rest
      ≡ unwanted_part (wanted_by c.le) bytes =
      ap (λ x. unwanted_part x s.rest) after ∙ part.1
      ∙ ap (λ xs. unwanted_part (wanted_by c.le) xs) (sym s.bytes_are) in
      let gathered_is : flat_map unit_data (s.u ∷ o.others)
      ≡ wanted_part (wanted_by c.le) bytes =
      ap (λ xs. unit_data s.u ++ xs) o.gathered
      ∙ ap (λ xs. xs ++ wanted_part (after_unit (wanted_by c.le) s.u) s.rest) s.data_is
      ∙ ap (λ x. (s.front ++ []) ++ wanted_part x s.rest) after ∙ part.0
      ∙ ap (λ xs. wanted_part (wanted_by c.le) xs) (sym s.bytes_are) in
      let word_so = subst (λ xs. IsStatusWord (announcing xs own 256)) (sym rest_is) word in
      let ds : List Dialogue = flat_map dialogues_of o.others in (
        o.cut,
        o.in_range,
        record {
          units = s.u ∷ o.others;
          are_dialogues = s.are (flat_map dialogues_of o.others)
              (word_of (after_unit (wanted_by c.le) s.u) s.rest own 256 word_so) (o.are word_so);
          follow = s.follow (flat_map dialogues_of o.others) o.follow;
          runs = s.runs (flat_map dialogues_of o.others)
              (pending app (unwanted_part (wanted_by c.le) bytes) own)
              (subst (λ xs. Runs Meant (pending app s.rest own) (flat_map dialogues_of o.others)
              s.later (pending app xs own)) rest_is o.runs);
          gathers = record {
            is_open = record {
              before = o.before;
              last = o.last;
              opening = o.opening;
              left = o.left;
              units_are = o.units_are;
              followed = o.followed;
              opens = o.opens;
              is_unit = o.is_unit;
            };
            ends = o.ends;
            status_is = sym (o.status_is ∙ ap (λ xs. announcing xs own o.cut) rest_is);
            gathered_is = sym gathered_is;
          };
        },
      )

-- Under these plans an exchange gathers what the application responds.
pub exchange_under : {S : Type 0} (takes : S → Header → Bool) (Act : S → Did → S → Type 0)
    (c : Command) (first : CardState S) (bytes : List ℕ) (own : StatusWord) (app : S)
    (plans : List Course) → AreAgreed takes first c → HaveCuts plans
    → IsStatusWord (announcing (unwanted_part (wanted_by c.le) bytes) own 256)
    → Makes Act first.app (told (takes first.app c.header) c) bytes own app
    → (cut : ℕ) × Among plans cut × GathersAtT0 takes Act plans first c
    (wanted_part (wanted_by c.le) bytes)
    (announcing (unwanted_part (wanted_by c.le) bytes) own cut)
    (record { app = app; left = fetch_left (unwanted_part (wanted_by c.le) bytes) own })
exchange_under takes Act c first bytes own app plans agreed have word makes =
    let is = own_status Act first.app _ bytes own app makes in
    whole_exchange takes Act plans c first bytes own app plans is word
    (started takes Act plans c first bytes own app plans agreed is (all_of plans have) makes)
