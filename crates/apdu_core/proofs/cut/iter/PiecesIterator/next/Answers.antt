use Rattle.std.proofs.Common.{◌≡◌, arith, sym}
use Rattle.apdu_core.specs.Chaining.{chain_commands}
use Rattle.apdu_core.specs.PieceList.{pieces_of}
use Rattle.apdu_core.proofs.PieceLemmas.{next_more, makes_progress}
use Rattle.apdu_core.proofs.cut.iter.PiecesIterator.next.Goals as goal

pub returns-clause-steps : goal.returns-clause-steps
returns-clause-steps c =
    let header = c.self.inside.header in
    let left = c.in_ok-left.left.now in
    let shows : c.args.self.now ≡ chain_commands header (pieces_of left) =
    sym (rw c.in_ok-left.was at c.self.view_is) in
    next_more header _ left _ _ _ _ (omega arith) c.self.invariant shows
    c.with_more.ensures c.split_at.ensures.front c.split_at.ensures.back c.new-2.ensures

pub returns-clause-goes : goal.returns-clause-goes
returns-clause-goes c = makes_progress _ _ _ (returns-clause-steps c)
