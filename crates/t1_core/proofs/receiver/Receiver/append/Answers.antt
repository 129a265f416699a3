use Rattle.std.proofs.Common.{arith, rules}
use Rattle.std.proofs.lemmas.Grind.{common_steps}
use Rattle.t1_core.proofs.Zeros.{still_zeros}
use Rattle.t1_core.proofs.receiver.Receiver.append.Goals as goal

pub invariant_of-self : goal.invariant_of-self
invariant_of-self c =
    let s = c.self.inside in (
      grind (arith, common_steps),
      search (rules),
      still_zeros s.block 259 s.len c.args.byte c.self.invariant.2,
    )
