use Rattle.std.proofs.Common.{[], refl}
use Rattle.trace_explain.proofs.write.tree.push_remark.Goals as goal

pub returns-then-is_cut : goal.returns-then-is_cut
returns-then-is_cut c = ([], ([], refl, refl), c.cut.ensures [])
