-- Any other letter names no step.
use Rattle.std.proofs.Common.{inl, inr, arith}
use Rattle.card_c.proofs.PlanLemmas.{no_steps, one_more}
use Rattle.card_c.proofs.plan_letters.are_steps.Goals as goal
use Rattle.card_c.proofs.plan_letters.are_steps.Goals.{in_default, in-110, in-110-2, in-110-3}

pub returns-then-not-matches : goal.returns-then-not-matches
returns-then-not-matches c =
    let text = c.args.letters.now in let at = c.loop-letter.letter-index in
    let is = c.if-not-matches.true in
    elim c.match-matches.branch [
      | in_default w ↦ (
        λ never. absurd (cc never),
        λ h.
            absurd (no_steps text at c.loop-letter-test.true (omega (arith, w.in_default))
            (omega (arith, w.in_default)) (omega (arith, w.in_default)) h),
      )
      | in-110 w ↦ let e = w.matches-is in absurd (cc)
      | in-110-2 w ↦ let e = w.matches-is in absurd (cc)
      | in-110-3 w ↦ let e = w.matches-is in absurd (cc)
    ]

pub loop-letter-preserved : goal.loop-letter-preserved
loop-letter-preserved c =
    let text = c.args.letters.now in let at = c.loop-letter.letter-index in
    let is = c.if-not-matches.false in
    elim c.match-matches.branch [
      | in_default w ↦ let e = w.matches-is in absurd (cc)
      | in-110 w ↦ one_more text at c.loop-letter-test.true
          (inl (omega (arith, w.in-110))) c.loop-letter.invariant
      | in-110-2 w ↦ one_more text at c.loop-letter-test.true (inr (inl (omega (arith, w.in-110))))
          c.loop-letter.invariant
      | in-110-3 w ↦ one_more text at c.loop-letter-test.true (inr (inr (omega (arith, w.in-110))))
          c.loop-letter.invariant
    ]
