-- What the calls that give a plan do. A refusal changes nothing.
use Rattle.std.specs.Prelude.{◌≡◌, ◌<◌, ◌⊎◌, ℕ, ℤ, List, [], ◌∷◌, ◌++◌, length}
use Rattle.t0_core.specs.Plan.{Course}
use Rattle.card_c.specs.declared.card_side.CardSide.{CardSide}
use Rattle.card_c.specs.declared.card_side.CardSide.TheVariants.{Standing, Joined, Own}
use Rattle.card_c.specs.declared.session_side.SessionSide.{SessionSide}
use Rattle.card_c.specs.Codes.{gt_ok, gt_state}
use Rattle.card_c.specs.PlanLetters.{IsSpelt, IsRefused, plan_limit}

-- the plan of these letters and this cut is after those that waited
abbrev pub Queues : List ℕ → ℕ → List Course → ℤ → List Course → Type 0
Queues letters cut plans code new =
    ((plan : Course) × IsSpelt letters cut plan × (length plans < plan_limit) × (code ≡ gt_ok)
    × (new ≡ plans ++ plan ∷ []))
    ⊎ (IsRefused letters cut (length plans) code × (new ≡ plans))

-- at a card at T=0; the plan of the TPDU in progress stays
abbrev pub QueuesAtCard : List ℕ → ℕ → CardSide → ℤ → CardSide → Type 0
QueuesAtCard letters cut (Standing end plans) code new =
    (rest : List Course) × Queues letters cut plans.rest code rest
    × (new ≡ Standing end (record plans { rest = rest }))
QueuesAtCard letters cut (Own own) code new =
    (rest : List Course) × Queues letters cut own.plans.rest code rest
    × (new ≡ Own (record own { plans = record own.plans { rest = rest } }))
QueuesAtCard letters cut side code new = (code ≡ gt_state) × (new ≡ side)

-- only the plans have changed
pub record IsButPlans (old new : SessionSide) : Type 0 where
  pub session_is : new.session ≡ old.session
  pub answer_is : new.answer ≡ old.answer
  pub listens_is : new.listens ≡ old.listens
  pub heard_is : new.heard ≡ old.heard

-- in a session
abbrev pub QueuesInSession : List ℕ → ℕ → CardSide → ℤ → CardSide → Type 0
QueuesInSession letters cut (Joined session) code new =
    (next : SessionSide) × (new ≡ Joined next) × IsButPlans session next
    × Queues letters cut session.plans.items code next.plans.items
QueuesInSession letters cut side code new = (code ≡ gt_state) × (new ≡ side)
