-- For a valid plan: the most plans wait, or memory ran out.
use Rattle.std.proofs.Common.{arith}
use Rattle.card_c.proofs.PlanLemmas.{full, wanting}
use Rattle.card_c.proofs.plan_letters.plan_of.Goals as goal
use Rattle.card_c.proofs.plan_letters.plan_of.Goals.{in-1-to-256, in_default, in_default-2}

pub returns-then-waiting-ge-PLAN_LIMIT-clause-refused :
    goal.returns-then-waiting-ge-PLAN_LIMIT-clause-refused
returns-then-waiting-ge-PLAN_LIMIT-clause-refused c =
    let is = c.if-not-matches.false in
    let steps = c.are_steps.ensures.0 c.if-not-are_steps.false in
    elim c.if-matches.branch [
      | in-1-to-256 w ↦ full c.args.letters.now c.args.cut c.args.waiting steps
          (omega (arith, w.in-1-to-256)) (omega (arith, w.in-1-to-256))
          (omega (arith, c.if-waiting-ge-PLAN_LIMIT.true))
      | in_default w ↦ let e = w.matches-is in absurd (cc)
      | in_default-2 w ↦ let e = w.matches-is in absurd (cc)
    ]

pub returns-in-Err-clause-refused : goal.returns-in-Err-clause-refused
returns-in-Err-clause-refused c =
    let is = c.if-not-matches.false in
    let steps = c.are_steps.ensures.0 c.if-not-are_steps.false in
    elim c.if-matches.branch [
      | in-1-to-256 w ↦ wanting c.args.letters.now c.args.cut c.args.waiting steps
          (omega (arith, w.in-1-to-256)) (omega (arith, w.in-1-to-256))
          (omega (arith, c.if-waiting-ge-PLAN_LIMIT.false))
      | in_default w ↦ let e = w.matches-is in absurd (cc)
      | in_default-2 w ↦ let e = w.matches-is in absurd (cc)
    ]
