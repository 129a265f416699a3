-- Plans as C spells them: letters n, o and a for steps, and the cut.
use Rattle.std.specs.Prelude.{◌≡◌, ◌<◌, ◌≤◌, ◌⊎◌, ℕ, ℤ, List, map}
use Rattle.t0_core.specs.declared.plan.Step.{Step}
use Rattle.t0_core.specs.declared.plan.Step.TheVariants.{Null, One, All}
use Rattle.t0_core.specs.Plan.{Course, IsCut}
use Rattle.card_c.specs.Codes.{gt_memory, gt_argument, gt_plans}

abbrev pub letter_of : Step → ℕ
letter_of Null = 0x6E
letter_of One = 0x6F
letter_of All = 0x61

-- each is the letter of a step
abbrev pub AreSteps : List ℕ → Type 0
AreSteps letters = (steps : List Step) × (letters ≡ map letter_of steps)

-- these letters and this cut are the plan
abbrev pub IsSpelt : List ℕ → ℕ → Course → Type 0
IsSpelt letters cut plan = (letters ≡ map letter_of plan.steps) × (plan.cut ≡ cut) × IsCut cut

-- the most plans that wait for later TPDUs
abbrev pub plan_limit : ℕ
plan_limit = 1048576

-- Why no plan joins those that wait: these letters and this cut spell none; the most plans wait;
-- memory ran out.
abbrev pub IsRefused : List ℕ → ℕ → ℕ → ℤ → Type 0
IsRefused letters cut waiting code =
    (((plan : Course) → ¬ IsSpelt letters cut plan) × (code ≡ gt_argument))
    ⊎ ((plan : Course) × IsSpelt letters cut plan × (plan_limit ≤ waiting) × (code ≡ gt_plans))
    ⊎ ((plan : Course) × IsSpelt letters cut plan × (waiting < plan_limit)
    × (code ≡ gt_memory))
