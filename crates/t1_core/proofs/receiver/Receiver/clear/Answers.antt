use Rattle.std.proofs.Common.{arith, ◌≡◌, ◌∙◌, ℕ, ap, length, replicate}
use Rattle.std.proofs.lemmas.List.{length-replicate}
use Rattle.t1_core.proofs.Zeros.{all_zeros, zeros_further}
use Rattle.t1_core.proofs.receiver.Receiver.clear.Goals.{then-self-le-SHORT, else-self-le-SHORT}
use Rattle.t1_core.proofs.receiver.Receiver.clear.Goals as goal

pub invariant_of-self : goal.invariant_of-self
invariant_of-self c =
    let s = c.self.inside in
    let zeros : c.if-self-le-SHORT.self-inside.block ≡ replicate 259 0 =
    elim c.if-self-le-SHORT.branch [
      | then-self-le-SHORT w ↦ ap (λ i. i.block) w.self-inside-is
          ∙ all_zeros s.block w.wipe.new.bytes 259 16 (omega (arith)) w.wipe.ensures
          (zeros_further s.block 259 s.len 16 (omega (arith, w.if-self-le-SHORT.true))
          c.self.invariant.2)
      | else-self-le-SHORT w ↦ ap (λ i. i.block) w.self-inside-is
          ∙ all_zeros s.block w.wipe-else-self-le-SHORT.new.bytes 259 s.len c.self.invariant.0
          w.wipe-else-self-le-SHORT.ensures c.self.invariant.2
    ] in
    (omega (arith), ap length zeros ∙ length-replicate {A = ℕ} 259 0, zeros)
