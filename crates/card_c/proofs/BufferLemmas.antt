-- Characters of a card that pass through a buffer: one more, a run of them, and all.
use Rattle.std.proofs.Common.{◌≡◌, ◌<◌, ◌≤◌, ◌+◌, ◌++◌, ℕ, List, [], ◌∷◌, length, take, drop, set, refl, sym, subst, ap, ◌∙◌, arith, length-append}
use Rattle.std.proofs.lemmas.List.{take_more_set, drop-set-lt, drop-drop, take_at, drop_at, length-take-le}
use Rattle.t0_core.specs.Plan.{Cursor, plan_kept}
use Rattle.t0_core.specs.declared.tpdu_card.TpduCard.{Ghosts}
use Rattle.t0_core.specs.CardSide.{EndOf}
use Rattle.t0_core.specs.CardSending.{IsHandedOut}
use Rattle.t0_core.specs.Buffers.{Steps, HandsOut}
use Rattle.object_card.specs.CardView.{CardView}
use Rattle.card_c.specs.CardTpduCalls.{object_card}
use Rattle.card_c.specs.BufferCalls.{Driven, HandsOutOne}

module _ {State : Type 0} (Step : State → ℕ → State → Type 0) where
  -- more steps
  steps_on : (bs cs : List ℕ) (s mid last : State) → Steps Step s bs mid → Steps Step mid cs last
      → Steps Step s (bs ++ cs) last
  steps_on [] cs s mid last same more = subst (λ x. Steps Step x cs last) same more
  steps_on (b ∷ bs) cs s mid last (next, step, steps) more =
      (next, step, steps_on bs cs next mid last steps more)

  -- one more is written
  pub one_handed_by : (old s next : State) (before after : List ℕ) (at b : ℕ)
      → at < length after → length after ≡ length before → HandsOut Step old before after at s
      → Step s b next → HandsOut Step old before (set after at b) (at + 1) next
  one_handed_by old s next before after at b below same handed step = record {
    fits = omega (arith, below, same);
    steps = subst (λ bs. Steps Step old bs next) (sym (take_more_set after at b below))
        (steps_on (take at after) (b ∷ []) old s next handed.steps (next, step, refl));
    behind = drop-set-lt (at + 1) after at b (omega arith) ∙ sym (drop-drop 1 at after)
        ∙ ap (λ bs. drop 1 bs) handed.behind ∙ drop-drop 1 at before;
  }

  -- a run is written
  pub run_handed_by : (old s next : State) (before after new run : List ℕ) (at : ℕ)
      → at + length run ≤ length after → length after ≡ length before
      → new ≡ take at after ++ run ++ drop (at + length run) after
      → HandsOut Step old before after at s → Steps Step s run next
      → HandsOut Step old before new (at + length run) next
  run_handed_by old s next before after new run at below same is handed steps =
      let n = length run in
      let front = take at after ++ run in
      let len : length front ≡ at + n = length-append (take at after) run
      ∙ ap (λ k. k + n) (length-take-le at after (omega (arith, below))) in
      record {
        fits = omega (arith, below, same);
        steps = subst (λ bs. Steps Step old bs next)
            (sym (ap (λ bs. take (at + n) bs) is ∙ take_at front (drop (at + n) after) (at + n)
            len)) (steps_on (take at after) run old s next handed.steps steps);
        behind = ap (λ bs. drop (at + n) bs) is
            ∙ drop_at front (drop (at + n) after) (at + n) len ∙ sym (drop-drop n at after)
            ∙ ap (λ bs. drop n bs) handed.behind ∙ drop-drop n at before;
      }

pub one_handed : (old s next : Driven) (before after : List ℕ) (at b : ℕ) → at < length after
    → length after ≡ length before → HandsOut HandsOutOne old before after at s
    → HandsOutOne s b next → HandsOut HandsOutOne old before (set after at b) (at + 1) next
one_handed = one_handed_by HandsOutOne

-- each step is also one that says less, of what the state is part of
pub steps_as : {S T : Type 0} (Step : S → ℕ → S → Type 0) (Less : T → ℕ → T → Type 0) (f : S → T)
    → ((s t : S) (b : ℕ) → Step s b t → Less (f s) b (f t)) → (bs : List ℕ) (s last : S)
    → Steps Step s bs last → Steps Less (f s) bs (f last)
steps_as Step Less f less [] s last same = ap f same
steps_as Step Less f less (b ∷ bs) s last (next, step, steps) =
    (f next, less s next b step, steps_as Step Less f less bs next last steps)

-- a card's data are written
pub data_handed_by : {C : Type 0} (card : Ghosts C)
    (One : EndOf C × Cursor → ℕ → EndOf C × Cursor → Type 0)
    → ((plans : Cursor) (s t : EndOf C) (b : ℕ) → IsHandedOut card s b t
    → One (s, plans) b (t, plans))
    → (plans : Cursor) (old : EndOf C × Cursor) (end next : EndOf C)
    (before after new : List ℕ) (at count : ℕ) → length after ≡ length before
    → HandsOut One old before after at (end, plans)
    → (run : List ℕ) × (length run ≡ count) × (at + count ≤ length after)
    × (new ≡ take at after ++ run ++ drop (at + count) after)
    × Steps (IsHandedOut card) end run next
    → HandsOut One old before new (at + count) (next, plans)
data_handed_by card One driven plans old end next before after new at count same handed
    (run, len, below, is, steps) =
    subst (λ n. HandsOut One old before new (at + n) (next, plans)) len
    (run_handed_by One old (end, plans) (next, plans) before after new run at
    (omega (arith, len, below)) same
    (subst (λ n. new ≡ take at after ++ run ++ drop (at + n) after) (sym len) is) handed
    (steps_as (IsHandedOut card) One (λ e. (e, plans)) (driven plans) run end next steps))

-- a data character takes no plan
pub driven : (plans : Cursor) (s t : EndOf CardView) (b : ℕ) → IsHandedOut object_card s b t
    → HandsOutOne (s, plans) b (t, plans)
driven plans s t b is = (
  is.silent,
  rw is.begun refl,
  is.led,
  λ first came taken led last. rw is.begun
      (is.led_under first came taken (plan_kept plans) led (last is.begun)),
)

-- the data of a card of data objects are written
pub data_handed : (plans : Cursor) (old : Driven) (end next : EndOf CardView)
    (before after new : List ℕ) (at count : ℕ) → length after ≡ length before
    → HandsOut HandsOutOne old before after at (end, plans)
    → (run : List ℕ) × (length run ≡ count) × (at + count ≤ length after)
    × (new ≡ take at after ++ run ++ drop (at + count) after)
    × Steps (IsHandedOut object_card) end run next
    → HandsOut HandsOutOne old before new (at + count) (next, plans)
data_handed = data_handed_by object_card HandsOutOne driven
