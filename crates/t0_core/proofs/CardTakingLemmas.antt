-- A card's end takes a run of data characters, which is one step for each.
use Rattle.std.proofs.Common.{◌≡◌, ℕ, ◌+◌, ◌<◌, ◌≤◌, List, [], ◌∷◌, ◌++◌, length, take, refl, sym, subst, ap, ◌∙◌, arith, inl, inr, true, add-zero, append-nil, append_assoc, get_or}
use Rattle.std.proofs.lemmas.List.{take_more}
use Rattle.t0_core.specs.declared.tpdu_card.TpduCard.{Ghosts}
use Rattle.t0_core.specs.declared.card_end.Phase.{Phase}
use Rattle.t0_core.specs.declared.direction.Direction.{Direction}
use Rattle.t0_core.specs.declared.direction.Direction.TheVariants.{ToCard, FromCard}
use Rattle.t0_core.specs.declared.service.Service.{Service}
use Rattle.t0_core.specs.Meaning.{Prepared}
use Rattle.t0_core.specs.CardSide.{EndOf, Stage, Serving, comes_from_terminal, listens, one_moved, whole_of}
use Rattle.t0_core.specs.CardView.{Fits, IsForgotten, IsInService, IsRun, so_many_moved, stage_of}
use Rattle.t0_core.specs.CardTaking.{IsTaken}
use Rattle.t0_core.specs.Buffers.{Steps}
use Rattle.t0_core.proofs.HistoryLemmas.{data_are_due, takes_on, take_leads, take_leads_under}

abbrev pub end_at : {C : Type 0} → C → Stage → EndOf C
end_at card stage = record { card = card; stage = stage }

from_terminal : (d : Direction) → d ≡ ToCard → comes_from_terminal d ≡ true
from_terminal ToCard is = refl
from_terminal FromCard is = absurd (cc)

module _ {C : Type 0} (card : Ghosts C) (e : C) where
  one_taken : (s : Service) (came : List ℕ) (byte : ℕ) → s.direction ≡ ToCard → s.moved < s.until
      → s.until ≤ whole_of s
      → IsTaken card (end_at e (Serving s came)) byte
      (end_at e (Serving (one_moved s) (came ++ byte ∷ [])))
  one_taken s came byte way below within =
      let due : listens (Serving s came) ≡ true = data_are_due s.direction s.moved s.until
      (from_terminal s.direction way) below in
      record {
        listening = due;
        taken = refl;
        falls = λ plan. omega (arith, below, within);
        goes_on = λ cut front next stands goes. takes_on card.Does (card.standing e)
            (card.prepared e) (Serving s came) cut byte front next due stands goes;
        led = λ first events led. take_leads card.Does card.after_reset first (card.standing e)
            (card.prepared e) (Serving s came) events byte due led;
        led_under = λ first before taken led. take_leads_under card.Does first (card.standing e)
            (card.prepared e) (Serving s came) before taken byte due led;
      }

  run_taken : (bytes : List ℕ) (s : Service) (came : List ℕ) → s.direction ≡ ToCard
      → s.moved + length bytes ≤ s.until → s.until ≤ whole_of s
      → Steps (IsTaken card) (end_at e (Serving s came)) bytes
      (end_at e (Serving (so_many_moved s (length bytes)) (came ++ bytes)))
  run_taken [] s came way fits within =
      ap (λ k. end_at e (Serving (record s { moved = k }) (came ++ []))) (add-zero s.moved)
      ∙ ap (λ bs. end_at e (Serving s bs)) (append-nil came)
  run_taken (b ∷ bytes) s came way fits within =
      let P : ℕ → List ℕ → Type 0 = λ k bs. Steps (IsTaken card)
      (end_at e (Serving (one_moved s) (came ++ b ∷ []))) bytes
      (end_at e (Serving (record s { moved = k }) bs)) in
      let more : (s.moved + 1) + length bytes ≡ s.moved + length (b ∷ bytes) = omega arith in (
        end_at e (Serving (one_moved s) (came ++ b ∷ [])),
        one_taken s came b way (omega (arith, fits)) within,
        subst (λ k. P k (came ++ b ∷ bytes)) more
            (subst (λ bs. P ((s.moved + 1) + length bytes) bs) (append_assoc came (b ∷ []) bytes)
            (run_taken bytes (one_moved s) (came ++ b ∷ []) way (omega (arith, fits)) within)),
      )

  -- the characters of a run are taken one by one
  pub run_steps : (phase next : Phase) (came room bytes : List ℕ) (seen : EndOf C)
      → Fits (card.prepared e) phase → end_at e (stage_of phase came) ≡ seen
      → IsRun phase came bytes next room
      → Steps (IsTaken card) seen bytes (end_at e (stage_of next room))
  run_steps phase next came room bytes seen fits is (inl none) =
      let P : List ℕ → Type 0 = λ bs. Steps (IsTaken card) seen bs
      (end_at e (stage_of next room)) in
      subst P (sym none.0)
      (ap (λ (p : Phase). end_at e (stage_of p room)) none.1
      ∙ ap (λ (bs : List ℕ). end_at e (stage_of phase bs)) none.2 ∙ is)
  run_steps phase next came room bytes seen fits is (inr run) =
      let s = run.0 in
      let last = end_at e (Serving (so_many_moved s (length bytes)) (take s.moved came ++ bytes)) in
      let fit : IsInService (card.prepared e) s =
      subst (λ (p : Phase). Fits (card.prepared e) p) run.1 fits in
      let begun : end_at e (Serving s (take s.moved came)) ≡ seen =
      ap (λ (p : Phase). end_at e (stage_of p came)) (sym run.1) ∙ is in
      let left : last ≡ end_at e (stage_of next room) =
      ap (λ (bs : List ℕ). end_at e (Serving (so_many_moved s (length bytes)) bs)) (sym run.5)
      ∙ ap (λ (p : Phase). end_at e (stage_of p room)) (sym run.4) in
      subst (λ (x : EndOf C). Steps (IsTaken card) seen bytes x) left
      (subst (λ (x : EndOf C). Steps (IsTaken card) x bytes last) begun
      (run_taken bytes s (take s.moved came) run.2 run.3 fit.within))

-- what the card has prepared still suits the phase
pub run_fits : {State : Type 0} (prepared : Prepared State) (phase next : Phase)
    (came room bytes : List ℕ) → Fits prepared phase → IsRun phase came bytes next room
    → Fits prepared next
run_fits prepared phase next came room bytes fits (inl none) =
    subst (λ (p : Phase). Fits prepared p) (sym none.1) fits
run_fits prepared phase next came room bytes fits (inr run) =
    let s = run.0 in
    let fit : IsInService prepared s = subst (λ (p : Phase). Fits prepared p) run.1 fits in
    let more : IsInService prepared (so_many_moved s (length bytes)) = record {
      begun = run.3;
      within = fit.within;
      valid = fit.valid;
      small = fit.small;
      ready = fit.ready;
    } in
    subst (λ (p : Phase). Fits prepared p) (sym run.4) more

pub run_forgets : (phase next : Phase) (came room bytes : List ℕ) → IsForgotten phase came
    → IsRun phase came bytes next room → IsForgotten next room
run_forgets phase next came room bytes gone (inl none) =
    subst (λ (p : Phase). IsForgotten p room) (sym none.1)
    (subst (λ (bs : List ℕ). IsForgotten phase bs) (sym none.2) gone)
run_forgets phase next came room bytes gone (inr run) =
    subst (λ (p : Phase). IsForgotten p room) (sym run.4) tt

-- one more character
pub one_more : {C : Type 0} (card : Ghosts C) (bytes : List ℕ) (s last next : EndOf C) (b : ℕ)
    → Steps (IsTaken card) s bytes last → IsTaken card last b next
    → Steps (IsTaken card) s (bytes ++ b ∷ []) next
one_more {C = C} card [] s last next b same step =
    (next, subst (λ (x : EndOf C). IsTaken card x b next) same step, refl)
one_more card (c ∷ bytes) s last next b steps step =
    (steps.0, steps.1, one_more card bytes steps.0 last next b steps.2 step)

pub one_taken_more : {C : Type 0} (card : Ghosts C) (old s next : EndOf C) (bytes : List ℕ)
    (at : ℕ) → at < length bytes → Steps (IsTaken card) old (take at bytes) s
    → IsTaken card s (get_or bytes at 0) next
    → Steps (IsTaken card) old (take (at + 1) bytes) next
one_taken_more {C = C} card old s next bytes at below steps step =
    subst (λ bs. Steps (IsTaken card) old bs next) (sym (take_more bytes at 0 below))
    (one_more card (take at bytes) old s next (get_or bytes at 0) steps step)
