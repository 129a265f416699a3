use Rattle.std.proofs.Common.{arith, rules, sym, ◌∙◌}
use Rattle.std.proofs.lemmas.Grind.{common_steps}
use Rattle.t1_core.proofs.Zeros.{still_zeros}
use Rattle.t1_core.proofs.tap.Tap.push.Goals as goal

pub invariant_of-self : goal.invariant_of-self
invariant_of-self c =
    let s = c.self.inside in (
      grind (arith, common_steps),
      search (rules),
      still_zeros s.bytes 260 s.len c.args.byte c.self.invariant.2,
      λ incomplete. sym c.is_complete-self-inside.ensures ∙ incomplete,
    )
