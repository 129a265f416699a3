-- Which letters are those of steps.
use Rattle.std.proofs.Common.{◌≡◌, ◌≢◌, ℕ, zero, suc, ◌+◌, ◌<◌, ◌≤◌, List, [], ◌∷◌, length, take, get_or, map, refl, sym, ap, subst, ◌∙◌, inl, inr, arith, ◌⊎◌, ℤ, w32, to_z, of_z, lit<}
use Rattle.t0_core.specs.declared.plan.Step.{Step}
use Rattle.t0_core.specs.declared.plan.Step.TheVariants.{Null, One, All}
use Rattle.t0_core.specs.Plan.{Course}
use Rattle.card_c.specs.PlanLetters.{AreSteps, IsSpelt, IsRefused, letter_of, plan_limit}
use Rattle.card_c.specs.Codes.{gt_memory, gt_argument, gt_plans}
use Rattle.card_c.proofs.CodeLemmas.{as_it_is}

abbrev IsLetter : ℕ → Type 0
IsLetter b = (b ≡ 0x6E) ⊎ ((b ≡ 0x6F) ⊎ (b ≡ 0x61))

letter_at : (steps : List Step) (k : ℕ) → k < length (map letter_of steps)
    → IsLetter (get_or (map letter_of steps) k 0)
letter_at [] k lt = absurd (omega arith)
letter_at (Null ∷ steps) zero lt = inl refl
letter_at (One ∷ steps) zero lt = inr (inl refl)
letter_at (All ∷ steps) zero lt = inr (inr refl)
letter_at (step ∷ steps) (suc k) lt = letter_at steps k (omega (arith, lt))

-- each of them is a letter
pub is_letter : (letters : List ℕ) (k : ℕ) → k < length letters → AreSteps letters
    → IsLetter (get_or letters k 0)
is_letter letters k lt (steps, e) =
    let P : List ℕ → Type 0 = λ xs. k < length xs → IsLetter (get_or xs k 0) in
    subst P (sym e) (letter_at steps k) lt

-- with another letter there are no steps
pub no_steps : (letters : List ℕ) (k : ℕ) → k < length letters → get_or letters k 0 ≢ 0x6E
    → get_or letters k 0 ≢ 0x6F
    → get_or letters k 0 ≢ 0x61 → AreSteps letters → ⊥
no_steps letters k lt null one all h = of (is_letter letters k lt h)
  where
    of : IsLetter (get_or letters k 0) → ⊥
    of (inl is) = null is
    of (inr (inl is)) = one is
    of (inr (inr is)) = all is

step_of : (b : ℕ) → IsLetter b → (step : Step) × (b ≡ letter_of step)
step_of b (inl is) = (Null, is)
step_of b (inr (inl is)) = (One, is)
step_of b (inr (inr is)) = (All, is)

one_letter : (letters : List ℕ) (k : ℕ) → k < length letters → IsLetter (get_or letters k 0)
    → AreSteps (take k letters) → AreSteps (take (suc k) letters)
one_letter [] k lt letter h = absurd (omega (arith, lt))
one_letter (b ∷ letters) zero lt letter h =
    let step = step_of b letter in
    (step.0 ∷ [], ap (λ (x : ℕ). x ∷ []) step.1)
one_letter (b ∷ letters) (suc k) lt letter ([], e) = absurd (cc e)
one_letter (b ∷ letters) (suc k) lt letter (step ∷ steps, e) =
    let head : b ≡ letter_of step = cc in
    let tail : take k letters ≡ map letter_of steps = cc in
    let more = one_letter letters k (omega (arith, lt)) letter (steps, tail) in (
      step ∷ more.0,
      ap (λ (x : ℕ). x ∷ take (suc k) letters) head
          ∙ ap (λ (xs : List ℕ). letter_of step ∷ xs) more.1,
    )

-- one letter more
pub one_more : (letters : List ℕ) (k : ℕ) → k < length letters → IsLetter (get_or letters k 0)
    → AreSteps (take k letters) → AreSteps (take (k + 1) letters)
one_more letters k lt letter h =
    let next : suc k ≡ k + 1 = omega arith in
    subst (λ (n : ℕ). AreSteps (take n letters)) next (one_letter letters k lt letter h)

-- the plan with these letters and this cut
spelt : (letters : List ℕ) (cut : ℕ) → AreSteps letters → 1 ≤ cut → cut ≤ 256
    → (plan : Course) × IsSpelt letters cut plan
spelt letters cut (steps, e) low high =
    (record { steps = steps; cut = cut }, (e, refl, (low, high)))

-- memory ran out for a valid plan
pub wanting : (letters : List ℕ) (cut waiting : ℕ) → AreSteps letters → 1 ≤ cut → cut ≤ 256
    → waiting < plan_limit → IsRefused letters cut waiting gt_memory
wanting letters cut waiting are low high fits =
    let plan = spelt letters cut are low high in inr (inr (plan.0, plan.1, fits, refl))

-- the most plans wait
pub full : (letters : List ℕ) (cut waiting : ℕ) → AreSteps letters → 1 ≤ cut → cut ≤ 256
    → plan_limit ≤ waiting → IsRefused letters cut waiting gt_plans
full letters cut waiting are low high many =
    let plan = spelt letters cut are low high in inr (inl (plan.0, plan.1, many, refl))

-- the code of a refused plan stays as it is in a register
pub refused_code : (letters : List ℕ) (cut waiting : ℕ) (code : ℤ)
    → IsRefused letters cut waiting code → to_z w32 (of_z w32 code) ≡ code
refused_code letters cut waiting code (inl (none, is)) =
    subst (λ (z : ℤ). to_z w32 (of_z w32 z) ≡ z) (sym is) (as_it_is gt_argument (lit< tt))
refused_code letters cut waiting code (inr (inl (plan, spelt, many, is))) =
    subst (λ (z : ℤ). to_z w32 (of_z w32 z) ≡ z) (sym is) (as_it_is gt_plans (lit< tt))
refused_code letters cut waiting code (inr (inr (plan, spelt, fits, is))) =
    subst (λ (z : ℤ). to_z w32 (of_z w32 z) ≡ z) (sym is) (as_it_is gt_memory (lit< tt))
