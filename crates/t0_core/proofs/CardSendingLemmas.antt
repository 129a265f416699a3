-- A card's end sends a run of data characters, which is one turn for each.
use Rattle.std.proofs.Common.{◌≡◌, ℕ, zero, suc, ◌+◌, ◌-◌, ◌<◌, ◌≤◌, List, [], ◌∷◌, length, take, drop, take_all, take-take, refl, sym, subst, ap, ◌∙◌, arith, inl, Bool, false, ◌&&◌, nat_lt, Some, add-zero}
use Rattle.std.specs.Prelude.{min}
use Rattle.std.specs.List.{slice_get}
use Rattle.std.proofs.lemmas.Bool.{lt-ltb}
use Rattle.std.proofs.Math.Nat.{min-eq_left, min-eq_right, min-le_right}
use Rattle.std.proofs.lemmas.List.{length-take-le}
use Rattle.t0_core.specs.declared.tpdu_card.TpduCard.{Ghosts}
use Rattle.t0_core.specs.declared.card_end.Phase.{Phase}
use Rattle.t0_core.specs.declared.card_end.Phase.TheVariants.{Opening, Refused, Accepted, SecondStatus}
use Rattle.t0_core.specs.declared.direction.Direction.{Direction}
use Rattle.t0_core.specs.declared.direction.Direction.TheVariants.{ToCard, FromCard}
use Rattle.t0_core.specs.declared.service.Service.{Service}
use Rattle.t0_core.specs.Meaning.{Prepared, Nothing, Receiving, Sending, Decided, IsSending}
use Rattle.t0_core.specs.Plan.{Course, Cursor, plain}
use Rattle.t0_core.specs.Front.{Front, In_header, In_body, After_first}
use Rattle.t0_core.specs.CardSide.{EndOf, Stage, Taking_header, Refusing, Serving, Ending, StandsAt, Advances, comes_from_terminal, due_in, listens, left_to_send, one_moved, whole_of}
use Rattle.t0_core.specs.CardView.{Fits, IsBegun, IsForgotten, skipped, so_many_moved, stage_of}
use Rattle.t0_core.specs.CardSending.{AreDue, IsHandedOut}
use Rattle.t0_core.specs.DataRun.{IsRunAt}
use Rattle.t0_core.specs.Buffers.{Steps}
use Rattle.t0_core.proofs.CardLemmas.{sends_data}
use Rattle.t0_core.proofs.CardTakingLemmas.{end_at}
use Rattle.t0_core.proofs.HistoryLemmas.{turn_leads_on, turn_leads_under_on}
use Rattle.t0_core.proofs.PlaceLemmas.{card_is_due}

-- ---- how many are skipped

-- no more than are left
skipped_most : (phase : Phase) (came : List ℕ) (n k : ℕ) → k ≡ due_in (stage_of phase came)
    → k ≤ n → skipped phase n ≡ skipped phase k
skipped_most (Opening bytes taken) came n k is le = refl
skipped_most (Refused header p3 status done) came n k is le = refl
skipped_most (SecondStatus status) came n k is le = refl
skipped_most (Accepted s) came n k is le =
    let left = left_to_send s.direction s.moved s.until in
    ap (λ m. Accepted (so_many_moved s m))
    (min-eq_right {n = left} {m = n} (omega (arith, is, le))
    ∙ sym (min-eq_right {n = left} {m = k} (omega (arith, is))))

skipped_none : (phase : Phase) (came : List ℕ) (n : ℕ) → due_in (stage_of phase came) ≡ 0
    → skipped phase n ≡ phase
skipped_none (Opening bytes taken) came n none = refl
skipped_none (Refused header p3 status done) came n none = refl
skipped_none (SecondStatus status) came n none = refl
skipped_none (Accepted s) came n none =
    let left = left_to_send s.direction s.moved s.until in
    ap (λ m. Accepted (record s { moved = m }))
    (ap (λ k. s.moved + k) (min-eq_right {n = left} {m = n} (omega (arith, none)) ∙ none)
    ∙ add-zero s.moved)

-- ---- the bytes of a run

-- the first byte of a run, and the rest of it
front_is : (bytes : List ℕ) (m b n : ℕ) (run : List ℕ) → b ∷ run ≡ take (suc n) (drop m bytes)
    → (slice_get bytes m ≡ Some b) × (run ≡ take n (drop (suc m) bytes))
front_is [] zero b n run is = absurd (cc)
front_is [] (suc m) b n run is = absurd (cc)
front_is (x ∷ xs) zero b n run is =
    let same : b ≡ x = cc in
    let rest : run ≡ take n xs = cc in (ap (λ y. Some y) (sym same), rest)
front_is (x ∷ xs) (suc m) b n run is = front_is xs m b n run is

abbrev HasNext : {State : Type 0} → Prepared State → ℕ → List ℕ → Type 0
HasNext prepared m run =
    IsSending prepared (λ ask bytes. run ≡ take (length run) (drop m bytes))

first_of : {State : Type 0} (prepared : Prepared State) (m b : ℕ) (run : List ℕ)
    → HasNext prepared m (b ∷ run) → IsSending prepared (λ ask bytes. slice_get bytes m ≡ Some b)
first_of (Sending ask bytes) m b run is = (front_is bytes m b (length run) run is).0
first_of Nothing m b run is = absurd is
first_of (Receiving ask) m b run is = absurd is
first_of (Decided next) m b run is = absurd is

rest_of : {State : Type 0} (prepared : Prepared State) (m b : ℕ) (run : List ℕ)
    → HasNext prepared m (b ∷ run) → HasNext prepared (m + 1) run
rest_of (Sending ask bytes) m b run is =
    let e : suc m ≡ m + 1 = omega arith in
    subst (λ k. run ≡ take (length run) (drop k bytes)) e
    (front_is bytes m b (length run) run is).1
rest_of Nothing m b run is = absurd is
rest_of (Receiving ask) m b run is = absurd is
rest_of (Decided next) m b run is = absurd is

part_of : {State : Type 0} (prepared : Prepared State) (m n : ℕ) (run : List ℕ)
    → n ≤ length run → IsSending prepared (λ ask bytes. IsRunAt bytes m run)
    → HasNext prepared m (take n run)
part_of (Sending ask bytes) m n run le is =
    ap (take n) is.1 ∙ take-take n (length run) (drop m bytes) le
    ∙ ap (λ k. take k (drop m bytes)) (sym (length-take-le n run le))
part_of Nothing m n run le is = absurd is
part_of (Receiving ask) m n run le is = absurd is
part_of (Decided next) m n run le is = absurd is

-- one byte is a run
pub one_is_run : {State : Type 0} (prepared : Prepared State) (at byte : ℕ)
    → IsSending prepared (λ ask bytes. slice_get bytes at ≡ Some byte)
    → IsSending prepared (λ ask bytes. IsRunAt bytes at (byte ∷ []))
one_is_run (Sending ask bytes) at byte is = (omega arith, alone bytes at is)
  where
    alone : (bytes : List ℕ) (at : ℕ) → slice_get bytes at ≡ Some byte
        → byte ∷ [] ≡ take 1 (drop at bytes)
    alone [] at is = absurd (cc)
    alone (x ∷ xs) zero is = let same : x ≡ byte = cc in ap (λ y. y ∷ []) (sym same)
    alone (x ∷ xs) (suc at) is = alone xs at is
one_is_run Nothing at byte is = absurd is
one_is_run (Receiving ask) at byte is = absurd is
one_is_run (Decided next) at byte is = absurd is

no_wait : (d : Direction) (m u : ℕ) → (left_to_send d m u ≡ 0 → ⊥) → (d ≡ FromCard) × (m < u)
no_wait ToCard m u some = absurd (some refl)
no_wait FromCard m u some = (refl, omega (arith, some))

-- the data character at this place is next
pub one_due : {C : Type 0} (card : Ghosts C) (e : C) (phase : Phase) (s : Service)
    (came : List ℕ) (at byte : ℕ) → phase ≡ Accepted s
    → (left_to_send s.direction s.moved s.until ≡ 0 → ⊥) → at ≡ s.moved
    → IsSending (card.prepared e) (λ ask bytes. slice_get bytes at ≡ Some byte)
    → AreDue card (end_at e (stage_of phase came)) (byte ∷ [])
one_due card e phase s came at byte is some place sends =
    let (way, below) = no_wait s.direction s.moved s.until some in
    let run = subst (λ k. IsSending (card.prepared e) (λ ask bytes. IsRunAt bytes k (byte ∷ [])))
    place (one_is_run (card.prepared e) at byte sends) in
    subst (λ (p : Phase). AreDue card (end_at e (stage_of p came)) (byte ∷ [])) (sym is)
    (way, omega (arith, below), run)

-- ---- its characters

from_card : (d : Direction) (due : Bool) → d ≡ FromCard → (comes_from_terminal d && due) ≡ false
from_card ToCard due is = absurd (cc)
from_card FromCard due is = refl

-- a cursor that keeps this plan
abbrev keeping : Course → Cursor
keeping plan = record { rest = []; kept = Some plan }

module _ {C : Type 0} (card : Ghosts C) (e : C) where
  goes_on : (s : Service) (came after : List ℕ) (byte cut : ℕ) (plan : Course) (front : Front)
      → s.direction ≡ FromCard → s.moved < s.until
      → IsSending (card.prepared e) (λ ask bytes. slice_get bytes s.moved ≡ Some byte)
      → StandsAt card.Does (card.standing e) (card.prepared e) (Serving s came) cut front
      → Advances card.Does cut plan (Serving s came) front byte (card.standing e)
      (card.standing e) (card.prepared e) (Serving (one_moved s) after)
  goes_on s came after byte cut plan (In_body b) way below is stands =
      sends_data card.Does (card.standing e) (card.prepared e) cut plan s (one_moved s) came after
      byte b refl below (from_card s.direction (nat_lt s.moved s.until) way) is stands
  goes_on s came after byte cut plan (In_header bytes) way below is stands = absurd stands
  goes_on s came after byte cut plan (After_first b sw1) way below is stands = absurd stands

  one_sent : (s : Service) (came after : List ℕ) (byte : ℕ) → s.direction ≡ FromCard
      → s.moved < s.until → s.until ≤ whole_of s
      → IsSending (card.prepared e) (λ ask bytes. slice_get bytes s.moved ≡ Some byte)
      → IsHandedOut card (end_at e (Serving s came)) byte (end_at e (Serving (one_moved s) after))
  one_sent s came after byte way below within is =
      let old = end_at e (Serving s came) in
      let silent : listens (Serving s came) ≡ false =
      from_card s.direction (nat_lt s.moved s.until) way in
      record {
        place = s.moved;
        awaited = rw (lt-ltb s.moved s.until below, way) refl;
        later = λ other is. sym (card_is_due (nat_lt (s.moved + 1) s.until) s.direction
            (s.moved + 1) s.until other refl is).2;
        silent = silent;
        begun = refl;
        falls = λ plan. omega (arith, below, within);
        counts = λ plan. inl (below, refl);
        keeps = (s, came, refl, refl);
        advances = λ cut plan front stands.
            goes_on s came after byte cut plan front way below is stands;
        led = λ first events led.
            turn_leads_on card.Does card.after_reset card.standing card.prepared plain byte
            (card.standing e) (card.prepared e) (Serving (one_moved s) after) old old refl
            (λ takes. absurd (cc)) silent
            (λ cut front takes stands.
            goes_on s came after byte cut plain front way below is stands)
            first events byte refl led;
        led_under = λ first before taken plan led last.
            turn_leads_under_on card.Does card.standing card.prepared (keeping plan)
            (keeping plan) byte (card.standing e) (card.prepared e)
            (Serving (one_moved s) after) old old refl (λ takes. absurd (cc)) silent refl
            (λ cut front takes stands.
            goes_on s came after byte cut plan front way below is stands)
            first before taken byte refl led (λ none. last);
      }

  run_sent : (run : List ℕ) (s : Service) (room : List ℕ) → s.direction ≡ FromCard
      → s.moved + length run ≤ s.until → s.until ≤ whole_of s
      → HasNext (card.prepared e) s.moved run
      → Steps (IsHandedOut card) (end_at e (Serving s (take s.moved room))) run
      (end_at e (Serving (so_many_moved s (length run)) (take (s.moved + length run) room)))
  run_sent [] s room way fits within is =
      ap (λ k. end_at e (Serving (record s { moved = k }) (take k room))) (add-zero s.moved)
  run_sent (b ∷ run) s room way fits within is =
      let next = end_at e (Serving (one_moved s) (take (s.moved + 1) room)) in
      let more : (s.moved + 1) + length run ≡ s.moved + length (b ∷ run) = omega arith in (
        next,
        one_sent s (take s.moved room) (take (s.moved + 1) room) b way (omega (arith, fits)) within
            (first_of (card.prepared e) s.moved b run is),
        subst (λ k. Steps (IsHandedOut card) next run
            (end_at e (Serving (record s { moved = k }) (take k room)))) more
            (run_sent run (one_moved s) room way (omega (arith, fits)) within
            (rest_of (card.prepared e) s.moved b run is)),
      )

  due_steps : (phase : Phase) (came run : List ℕ) (n : ℕ) → Fits (card.prepared e) phase
      → AreDue card (end_at e (stage_of phase came)) run → n ≤ length run
      → Steps (IsHandedOut card) (end_at e (stage_of phase came)) (take n run)
      (end_at e (stage_of (skipped phase n) came))
  due_steps (Opening bytes taken) came run n fits due le = absurd due
  due_steps (Refused header p3 status done) came run n fits due le = absurd due
  due_steps (SecondStatus status) came run n fits due le = absurd due
  due_steps (Accepted s) came run n fits (way, within, is) le =
      let last : ℕ → Type 0 = λ k. Steps (IsHandedOut card)
      (end_at e (Serving s (take s.moved came))) (take n run)
      (end_at e (Serving (so_many_moved s k) (take (s.moved + k) came))) in
      let len : length (take n run) ≡ n = length-take-le n run le in
      let whole : n ≤ s.until - s.moved = omega (arith, le, within) in
      let all : min n (left_to_send s.direction s.moved s.until) ≡ n =
      ap (λ d. min n (left_to_send d s.moved s.until)) way ∙ min-eq_left whole in
      subst last (len ∙ sym all)
      (run_sent (take n run) s came way (omega (arith, len, le, within)) fits.within
      (part_of (card.prepared e) s.moved n run le is))

  -- the characters of a run that the end skips are sent one by one
  pub skip_steps : (phase next : Phase) (came run : List ℕ) (n : ℕ) (seen : EndOf C)
      → Fits (card.prepared e) phase → end_at e (stage_of phase came) ≡ seen
      → next ≡ skipped phase n → AreDue card seen run → n ≤ length run
      → Steps (IsHandedOut card) seen (take n run) (end_at e (stage_of next came))
  skip_steps phase next came run n seen fits is next_is due le =
      subst (λ (p : Phase). Steps (IsHandedOut card) seen (take n run) (end_at e (stage_of p came)))
      (sym next_is)
      (subst (λ (x : EndOf C). Steps (IsHandedOut card) x (take n run)
      (end_at e (stage_of (skipped phase n) came))) is
      (due_steps phase came run n fits
      (subst (λ (x : EndOf C). AreDue card x run) (sym is) due) le))

  -- the same if it is to skip more than are left
  pub skip_all : (phase next : Phase) (came run : List ℕ) (n : ℕ) (seen : EndOf C)
      → Fits (card.prepared e) phase → end_at e (stage_of phase came) ≡ seen
      → next ≡ skipped phase n → AreDue card seen run → length run ≡ due_in seen.stage
      → length run ≤ n → Steps (IsHandedOut card) seen run (end_at e (stage_of next came))
  skip_all phase next came run n seen fits is next_is due len le =
      let left = len ∙ sym (ap (λ (x : EndOf C). due_in x.stage) is) in
      subst (λ bs. Steps (IsHandedOut card) seen bs (end_at e (stage_of next came)))
      (take_all (length run) run (omega arith))
      (skip_steps phase next came run (length run) seen fits is
      (next_is ∙ skipped_most phase came n (length run) left le) due (omega arith))

  -- the character that the end skips is sent
  pub one_skipped : (phase next : Phase) (came : List ℕ) (byte : ℕ) (seen : EndOf C)
      → Fits (card.prepared e) phase → end_at e (stage_of phase came) ≡ seen
      → next ≡ skipped phase 1 → AreDue card (end_at e (stage_of phase came)) (byte ∷ [])
      → IsHandedOut card seen byte (end_at e (stage_of next came))
  one_skipped phase next came byte seen fits is next_is due =
      let one = skip_steps phase next came (byte ∷ []) 1 seen fits is next_is
      (subst (λ (x : EndOf C). AreDue card x (byte ∷ [])) is due) (omega arith) in
      subst (λ (x : EndOf C). IsHandedOut card seen byte x) (sym one.2) one.1

-- without data to send the end stays as it was
pub skip_none : {C : Type 0} (card : C) (phase next : Phase) (came : List ℕ) (n : ℕ)
    (seen : EndOf C) → record { card = card; stage = stage_of phase came } ≡ seen
    → next ≡ skipped phase n → due_in seen.stage ≡ 0
    → record { card = card; stage = stage_of next came } ≡ seen
skip_none {C = C} card phase next came n seen is next_is none =
    let none_left = sym (sym none ∙ sym (ap (λ (x : EndOf C). due_in x.stage) is)) in
    ap (λ (p : Phase). record { card = card; stage = stage_of p came })
    (next_is ∙ skipped_none phase came n none_left) ∙ is

-- what the card has prepared still suits the phase
not_past : (d : Direction) (m u n : ℕ) → m ≤ u → m + min n (left_to_send d m u) ≤ u
not_past ToCard m u n le = omega (arith, le, min-le_right n 0)
not_past FromCard m u n le = omega (arith, le, min-le_right n (u - m))

skip_fits_at : {State : Type 0} (prepared : Prepared State) (phase : Phase) (n : ℕ)
    → Fits prepared phase → Fits prepared (skipped phase n)
skip_fits_at prepared (Opening bytes taken) n fits = fits
skip_fits_at prepared (Refused header p3 status done) n fits = fits
skip_fits_at prepared (SecondStatus status) n fits = fits
skip_fits_at prepared (Accepted s) n fits = record {
  begun = not_past s.direction s.moved s.until n fits.begun;
  within = fits.within;
  valid = fits.valid;
  small = fits.small;
  ready = fits.ready;
}

pub skip_fits : {State : Type 0} (prepared : Prepared State) (phase next : Phase) (n : ℕ)
    → Fits prepared phase → next ≡ skipped phase n → Fits prepared next
skip_fits prepared phase next n fits is =
    subst (λ (p : Phase). Fits prepared p) (sym is) (skip_fits_at prepared phase n fits)

skip_forgets_at : (phase : Phase) (came : List ℕ) (n : ℕ) → IsForgotten phase came
    → IsForgotten (skipped phase n) came
skip_forgets_at (Opening bytes taken) came n gone = gone
skip_forgets_at (Refused header p3 status done) came n gone = gone
skip_forgets_at (SecondStatus status) came n gone = gone
skip_forgets_at (Accepted s) came n gone = tt

pub skip_forgets : (phase next : Phase) (came : List ℕ) (n : ℕ) → IsForgotten phase came
    → next ≡ skipped phase n → IsForgotten next came
skip_forgets phase next came n gone is =
    subst (λ (p : Phase). IsForgotten p came) (sym is) (skip_forgets_at phase came n gone)

-- a service has moved no more than its procedure bytes move
pub begun_phase : {State : Type 0} (prepared : Prepared State) (phase : Phase)
    → Fits prepared phase → IsBegun phase
begun_phase prepared (Opening bytes taken) fits = tt
begun_phase prepared (Refused header p3 status done) fits = tt
begun_phase prepared (SecondStatus status) fits = tt
begun_phase prepared (Accepted s) fits = fits.begun

-- ---- a run has a byte

is_some : {State : Type 0} (prepared : Prepared State) (m : ℕ) (run : List ℕ)
    → IsSending prepared (λ ask bytes. IsRunAt bytes m run) → 0 < length run
is_some (Sending ask bytes) m run is = is.0
is_some Nothing m run is = absurd is
is_some (Receiving ask) m run is = absurd is
is_some (Decided next) m run is = absurd is

some_at : {C : Type 0} (card : Ghosts C) (e : C) (stage : Stage) (run : List ℕ)
    → AreDue card (end_at e stage) run → 0 < length run
some_at card e (Serving s came) run due = is_some (card.prepared e) s.moved run due.2
some_at card e (Taking_header bytes) run due = absurd due
some_at card e (Refusing header p3 status done) run due = absurd due
some_at card e (Ending status) run due = absurd due

pub some_due : {C : Type 0} (card : Ghosts C) (e : EndOf C) (run : List ℕ) → AreDue card e run
    → 0 < length run
some_due card e run due = some_at card e.card e.stage run due
