-- Plans: which procedure bytes a card sends, and how it cuts its responses (profile).
use Rattle.std.specs.Prelude.{◌≡◌, ℕ, ◌≤◌, zero, suc, List, [], ◌∷◌, length, Option, Some, None, ◌⊎◌}
use Rattle.t0_core.specs.declared.plan.Step.{Step}
use Rattle.t0_core.specs.declared.plan.Step.TheVariants.{Null, One, All}
use Rattle.t0_core.specs.Dialogue.{Dialogue, foreseen}

-- a plan: its steps, and the most that one 61XX announces
pub record Course : Type 0 where
  pub steps : List Step
  pub cut : ℕ

-- a cut is 1 to 256
abbrev pub IsCut : ℕ → Type 0
IsCut cut = (1 ≤ cut) × (cut ≤ 256)

-- the plan of a TPDU if the list has no more plans
abbrev pub plain : Course
plain = record { steps = []; cut = 256 }

-- The segments of a plan, if this number of characters is to move. A step that finds no data left
-- is skipped, and one more `All` moves what is left at the end.
abbrev pub segments_of : List Step → ℕ → List Step
segments_of [] zero = []
segments_of [] (suc remain) = All ∷ []
segments_of (Null ∷ steps) remain = Null ∷ segments_of steps remain
segments_of (One ∷ steps) zero = segments_of steps zero
segments_of (One ∷ steps) (suc remain) = One ∷ segments_of steps remain
segments_of (All ∷ steps) zero = segments_of steps zero
segments_of (All ∷ steps) (suc remain) = All ∷ segments_of steps zero

-- all data move or none, in the segments of the plan
pub record Follows (d : Dialogue) (plan : Course) : Type 0 where
  pub all_or_nothing : (d.body.moved ≡ [])
      ⊎ (length d.body.moved ≡ foreseen d.body.direction d.body.p3)
  pub step_by_step : d.body.segments ≡ segments_of plan.steps (length d.body.moved)

-- The dialogues follow the plans in turn; after the last one a plan has no steps.
abbrev pub FollowInTurn : List Dialogue → List Course → Type 0
FollowInTurn [] plans = Unit {0}
FollowInTurn (d ∷ ds) [] = Follows d plain × FollowInTurn ds []
FollowInTurn (d ∷ ds) (p ∷ plans) = Follows d p × FollowInTurn ds plans

-- a list of plans, some of them taken: those left, and the one taken last
pub record Cursor : Type 0 where
  pub rest : List Course
  pub kept : Option Course

-- the next plan is taken; after the last one no plan is kept
abbrev pub advanced : Cursor → Cursor
advanced cursor = Advanced cursor.rest where
  Advanced : List Course → Cursor
  Advanced [] = record { rest = []; kept = None }
  Advanced (p ∷ plans) = record { rest = plans; kept = Some p }

-- the plan that is kept
abbrev pub plan_kept : Cursor → Course
plan_kept cursor = Kept cursor.kept where
  Kept : Option Course → Course
  Kept None = plain
  Kept (Some p) = p
