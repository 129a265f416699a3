use Rattle.std.proofs.Common.{refl, sym, subst, ap, ◌≡◌, ◌∙◌, ℕ}
use Rattle.t0_core.specs.Plan.{Cursor, plan_kept}
use Rattle.t0_core.specs.Front.{Front, In_body, header_only}
use Rattle.t0_core.specs.declared.card_end.Phase.{Phase}
use Rattle.t0_core.specs.CardView.{Fits, KeepsDirection, stage_of}
use Rattle.t0_core.specs.CardSide.{StandsAt, Advances}
use Rattle.t0_core.proofs.CardLemmas.{opening_advances, takes_a_plan, no_header, header_taken, stays_permitted}
use Rattle.t0_core.proofs.card_end.hand_out.Goals.{in-Opening, in_default}
use Rattle.t0_core.proofs.card_end.hand_out.Goals as goal

pub returns-clause-permitted : goal.returns-clause-permitted
returns-clause-permitted g c = λ h p3 is. elim c.match-phase.branch [
  | in-Opening w ↦
      let card = g.C.TpduCard in
      let came = c.args.came.now in
      let stage = stage_of c.go_on.new.phase came in
      let Held : Phase → Type 0 = λ p. Fits (card.prepared c.args.card.now) p in
      let held = subst Held w.in-Opening.is c.requires.fits in
      let Keeps : Phase → Type 0 = λ p. KeepsDirection (stage_of p came) stage in
      stays_permitted card.MayReceive card.MaySend h (stage_of w.judge.new.phase came) stage
      (subst Keeps w.phase-is c.go_on.ensures.keeps)
      (w.judge.ensures.permitted h p3 came (header_taken c.args.phase.now w.in-Opening.bytes came
      w.in-Opening.taken h p3 w.in-Opening.is held c.requires.due is))
  | in_default w ↦
      absurd (no_header c.args.phase.now c.args.came.now _ w.in_default.not-Opening is)
]

pub returns-clause-advances : goal.returns-clause-advances
returns-clause-advances g c = λ cut front taken stands. elim c.match-phase.branch [
  | in-Opening w ↦
      let card = g.C.TpduCard in
      let came = c.args.came.now in
      let plan = plan_kept c.match-phase.plans in
      let old = card.standing c.args.card.now in
      let judged = stage_of w.judge.new.phase came in
      let new = card.standing c.go_on.new.card in
      let stage = stage_of c.go_on.new.phase came in
      let Held : Phase → Type 0 = λ p. Fits (card.prepared c.args.card.now) p in
      let held = subst Held w.in-Opening.is c.requires.fits in
      let Keeps : Phase → Type 0 = λ p. KeepsDirection (stage_of p came) stage in
      let takes = taken (takes_a_plan c.args.phase.now w.in-Opening.bytes came w.in-Opening.taken
      w.in-Opening.is held c.requires.due) in
      let goes : (f : Front) → StandsAt card.Does (card.standing w.judge.new.card)
      (card.prepared w.judge.new.card) judged cut f → Advances card.Does cut plan judged f
      c.go_on.result (card.standing w.judge.new.card) new (card.prepared c.go_on.new.card) stage =
      rw (sym w.card-is, sym w.phase-is) (λ f. c.go_on.ensures.advances cut plan f refl) in
      opening_advances card.Does cut plan c.args.phase.now w.judge.new.phase w.in-Opening.bytes came
      w.in-Opening.taken c.go_on.result front old new
      (card.prepared c.args.card.now) (card.prepared c.go_on.new.card) stage w.in-Opening.is held
      c.requires.due w.judge.ensures.judged (subst Keeps w.phase-is c.go_on.ensures.keeps) takes.1
      (λ h p3 d whole suits.
      let at = w.judge.ensures.opens h p3 d came whole suits in
      let AtCut : ℕ → Type 0 =
      λ n. StandsAt card.Does old (card.prepared w.judge.new.card) judged n
      (In_body (header_only h p3 d)) in
      let AtState : card.State → Type 0 =
      λ s. StandsAt card.Does s (card.prepared w.judge.new.card) judged cut
      (In_body (header_only h p3 d)) in
      let From : card.State → Type 0 =
      λ s. Advances card.Does cut plan judged (In_body (header_only h p3 d)) c.go_on.result s
      new (card.prepared c.go_on.new.card) stage in
      let CutOf : Cursor → ℕ = λ p. (plan_kept p).cut in
      let cut_is : cut ≡ w.advance.result = takes.0 ∙ ap CutOf w.plans-is
      ∙ sym w.advance.ensures.cut in (
        subst From w.judge.ensures.stands
            (goes (In_body (header_only h p3 d))
            (subst AtState (sym w.judge.ensures.stands) (subst AtCut (sym cut_is) at.0))),
        at.1 plan,
      )) stands
  | in_default w ↦
      let card = g.C.TpduCard in
      let came = c.args.came.now in
      let plan = plan_kept c.match-phase.plans in
      let goes : StandsAt card.Does (card.standing c.args.card.now)
      (card.prepared c.args.card.now) (stage_of c.args.phase.now came) cut front
      → Advances card.Does cut plan (stage_of c.args.phase.now came) front
      c.go_on.result (card.standing c.args.card.now) (card.standing c.go_on.new.card)
      (card.prepared c.go_on.new.card) (stage_of c.go_on.new.phase came) =
      rw (sym w.card-is, sym w.phase-is) (c.go_on.ensures.advances cut plan front refl) in
      goes stands
]
