-- What the types of a lone card stand for. For the proof: the contracts of its private functions
-- use most of this.
use Rattle.std.specs.Prelude.{◌≡◌, ◌+◌, ℕ, suc, List, [], ◌∷◌, length, if◌then◌else◌}
use Rattle.t0_core.specs.Character.{Character}
use Rattle.t0_core.specs.Plan.{Course, Cursor, plan_kept}
use Rattle.t0_core.specs.CardSide.{Stage, EndOf, listens, still_to_go}
use Rattle.t0_core.specs.CardHistory.{under_way, IsTakenLast}
use Rattle.object_card.specs.CardView.{CardView}
use Rattle.card_trace.specs.declared.card_table.CardTable.{CardTable}
use Rattle.card_trace.specs.declared.lone_card.LoneCard.{LoneCard}
use Rattle.card_trace.specs.CardScripts.{Past, extended, RunningEnd, RunningCard, IsLed, TakeInTurn, Built}

-- what table lines have added
abbrev pub built : {A : Type 0} → CardTable A → Built
built table =
    record { tables = table.builder; plans = table.plans.items; answer = table.answer }

-- a card's end, and the cursor over its plans
abbrev pub AtWork : Type 0
AtWork = EndOf CardView × Cursor

-- the card's end as it is now, with this past
abbrev pub end_at : Past → AtWork → RunningEnd
end_at past now = record {
  past = past;
  left = now.1.rest;
  standing = now.0.card.state;
  prepared = now.0.card.prepared;
  stage = now.0.stage;
}

-- the past led to the end as it is now, and the cursor keeps the plan of the current TPDU, if it
-- has taken one
pub record IsReady (past : Past) (now : AtWork) : Type 0 where
  pub led : IsLed (end_at past now)
  pub keeps : (plan : Course) → under_way now.0.stage plan ≡ plan ∷ [] →
      IsTakenLast (plan_kept now.1) past.taken

-- these characters made the past lead to the end as it is now, and TPDUs took the next plans
abbrev pub IsReadyBy : Past → List Course → List Character → AtWork → Type 0
IsReadyBy past left characters now =
    (taken : List Course) × TakeInTurn left taken now.1.rest
    × IsReady (extended past characters taken) now

-- whatever led to the old end, these characters then lead to the new one
abbrev pub LeadOn : AtWork → List Character → AtWork → Type 0
LeadOn old characters new =
    (past : Past) → IsReady past old → IsReadyBy past old.1.rest characters new

-- for the proof: a number that falls with each character that the end hands out
abbrev pub steps_in : List Course → ℕ
steps_in [] = 0
steps_in (p ∷ plans) = length p.steps + steps_in plans

abbrev pub may_hand_out : Stage → Cursor → ℕ
may_hand_out stage plans = if listens stage then 0
    else suc (steps_in plans.rest + still_to_go stage (plan_kept plans))

abbrev pub at_work : {A : Type 0} → LoneCard A → AtWork
at_work card = (card.end, card.plans)

-- the running card as it is now, with this past
abbrev pub card_at : {A : Type 0} → Past → LoneCard A → RunningCard
card_at past card = record { answer = card.opening; end = end_at past (at_work card) }

-- Whatever led to the old card, some longer past leads to the new one, and `Between` holds of both.
abbrev pub LeadsTo : {A : Type 0} → (RunningCard → RunningCard → Type 0) → LoneCard A → LoneCard A
    → Type 0
LeadsTo Between old new = (past : Past) → IsReady past (at_work old) →
    (more : Past) × IsReady more (at_work new) × Between (card_at past old) (card_at more new)

-- a card stands for what it is after any past that may have led to it
abbrev pub StandsFor : {A : Type 0} → LoneCard A → RunningCard → Type 0
StandsFor card running =
    (past : Past) × IsReady past (at_work card) × (running ≡ card_at past card)
