use Rattle.std.proofs.Common.{◌≡◌, List, ℕ}
use Rattle.t0_core.specs.Plan.{plan_kept}
use Rattle.t0_core.specs.CardSide.{still_to_go}
use Rattle.t0_core.specs.TpduBytes.{asked_of}
use Rattle.t0_core.specs.Answering.{IsAnswering}
use Rattle.t0_core.proofs.card_end.CardEnd.answer.Given as goal

-- The card is still answering what it was answering at the start.
abbrev pub invariant-talk : goal.invariant-talk
invariant-talk g l =
    let asked = asked_of l.tpdu in
    (l.plans ≡ l.fn.plans) × ((first : g.C.TpduCard.State) (before : List ℕ)
    → IsAnswering g.C.TpduCard first (plan_kept l.fn.plans) asked before l.fn.gather.bytes l.fn.self
    → IsAnswering g.C.TpduCard first (plan_kept l.fn.plans) asked before l.gather.bytes l.self)
    × (l.gather.limit ≡ l.fn.gather.limit)

abbrev pub decreases-talk : goal.decreases-talk
decreases-talk g l = still_to_go l.self.stage (plan_kept l.plans)
