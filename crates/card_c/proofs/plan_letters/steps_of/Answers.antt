use Rattle.std.proofs.Common.{arith}
use Rattle.card_c.proofs.PlanLemmas.{no_steps}
use Rattle.card_c.proofs.plan_letters.steps_of.Goals as goal

pub unreachable-requires : goal.unreachable-requires
unreachable-requires c =
    no_steps c.args.letters.now c.loop-letter.letter-index c.loop-letter-test.true
    (omega (arith, c.in_default)) (omega (arith, c.in_default))
    (omega (arith, c.in_default)) c.requires
