use Rattle.std.proofs.Common.{◌≡◌, ◌≤◌, ◌+◌, ◌++◌, ◌∙◌, ℕ, List, length, take, drop, sym, ap, arith}
use Rattle.std.proofs.lemmas.List.{length-take-le}
use Rattle.t1_core.proofs.Zeros.{zeros_behind}
use Rattle.t1_core.proofs.receiver.Receiver.append_run.Goals as goal

pub invariant_of-self : goal.invariant_of-self
invariant_of-self c =
    let s = c.self.inside in
    let (within, size, zeros) = c.self.invariant in
    let n = c.min-count.result in
    let run : List ℕ = take n c.args.bytes.now in
    let len : length run ≡ n = length-take-le n c.args.bytes.now
    (omega (arith, c.min-count.ensures)) in
    let held : length c.args.self.now ≡ s.len = ap length (sym c.self.view_is)
    ∙ length-take-le s.len s.block (omega (arith, within, size)) in
    let fits : s.len + n ≤ 259 =
    omega (arith, within, held, c.min-count.ensures, c.missing.ensures.fits) in (
      fits,
      c.copy_at.auto.bytes ∙ size,
      zeros_behind s.block c.copy_at.new.bytes run 259 s.len n len (omega (arith, within, size))
          (c.copy_at.ensures ∙ ap (λ k. take s.len s.block ++ run ++ drop (s.len + k) s.block) len)
          zeros,
    )
