-- Many characters in a buffer: one more step.
use Rattle.std.proofs.Common.{◌≡◌, ◌<◌, ◌+◌, ◌++◌, ℕ, List, [], ◌∷◌, length, take, drop, set, get_or, refl, sym, subst, ap, ◌∙◌, arith}
use Rattle.std.proofs.lemmas.List.{take_more, take_more_set, drop-set-lt, drop-drop}
use Rattle.t0_core.specs.Buffers.{Steps, HandsOut}

module _ {State : Type 0} (Step : State → ℕ → State → Type 0) where
  -- one more step
  pub one_more : (bs : List ℕ) (s last next : State) (b : ℕ) → Steps Step s bs last
      → Step last b next → Steps Step s (bs ++ b ∷ []) next
  one_more [] s last next b same step = (next, subst (λ x. Step x b next) same step, refl)
  one_more (c ∷ bs) s last next b steps step =
      (steps.0, steps.1, one_more bs steps.0 last next b steps.2 step)

  -- more steps
  pub steps_on : (xs bs : List ℕ) (s mid last : State) → Steps Step s xs mid
      → Steps Step mid bs last → Steps Step s (xs ++ bs) last
  steps_on [] bs s mid last same steps = subst (λ x. Steps Step x bs last) same steps
  steps_on (x ∷ xs) bs s mid last first steps =
      (first.0, first.1, steps_on xs bs first.0 mid last first.2 steps)

  -- a byte written at an index leaves those after it unchanged
  pub rest_stays : (before after : List ℕ) (at b : ℕ) → drop at after ≡ drop at before
      → drop (at + 1) (set after at b) ≡ drop (at + 1) before
  rest_stays before after at b behind =
      drop-set-lt (at + 1) after at b (omega arith)
      ∙ sym (drop-drop 1 at after) ∙ ap (λ bs. drop 1 bs) behind ∙ drop-drop 1 at before

  -- one more character is written
  pub one_handed : (old s next : State) (before after : List ℕ) (at b : ℕ) → at < length after
      → length after ≡ length before → HandsOut Step old before after at s → Step s b next
      → HandsOut Step old before (set after at b) (at + 1) next
  one_handed old s next before after at b below same handed step = record {
    fits = omega (arith, below, same);
    steps = subst (λ bs. Steps Step old bs next) (sym (take_more_set after at b below))
        (one_more (take at after) old s next b handed.steps step);
    behind = rest_stays before after at b handed.behind;
  }

  -- one more character is taken
  pub one_taken : (old s next : State) (bytes : List ℕ) (at : ℕ) → at < length bytes
      → Steps Step old (take at bytes) s → Step s (get_or bytes at 0) next
      → Steps Step old (take (at + 1) bytes) next
  one_taken old s next bytes at below steps step =
      subst (λ bs. Steps Step old bs next) (sym (take_more bytes at 0 below))
      (one_more (take at bytes) old s next (get_or bytes at 0) steps step)
