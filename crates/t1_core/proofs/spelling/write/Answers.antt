use Rattle.std.proofs.Common.{◌≡◌, ◌++◌, sym, subst, drop, length, []}
use Rattle.t1_core.specs.declared.pcb.Pcb.TheVariants.{Ready}
use Rattle.t1_core.specs.BlockBytes.{bytes_of, spelled}
use Rattle.t1_core.specs.Block.{said}
use Rattle.t1_core.proofs.spelling.write.Goals as goal

pub returns-in-Ready : goal.returns-in-Ready
returns-in-Ready c =
    let old = c.args.out.now in
    let new = c.spell-in-Ready.new.out in
    subst (λ b. new ≡ bytes_of (said b) ++ drop (length (bytes_of (said b))) old)
    (sym c.in-Ready.is)
    (subst (λ e. new ≡ spelled (Ready c.in-Ready.number e) []
    ++ drop (length (spelled (Ready c.in-Ready.number e) [])) old) c.code-error.ensures
    c.spell-in-Ready.ensures)
