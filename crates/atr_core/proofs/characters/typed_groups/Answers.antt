use Rattle.std.proofs.Common.{◌≡◌, ◌%◌, arith, rules, true}
use Rattle.atr_core.specs.Answer.{may_follow}
use Rattle.atr_core.proofs.Groups.{one_more, all_read}
use Rattle.atr_core.proofs.characters.typed_groups.Goals as goal

pub groups-preserved : goal.groups-preserved
groups-preserved c =
    let order : may_follow c.groups.last (c.in_ok-td.td % 16) ≡ true = search rules in
    rw c.push.ensures.items
    (one_more _ _ _ _ _ _ _ _ _ _ c.groups.invariant c.groups-test.true (omega arith)
    c.in_ok-td.ensures order c.in_ok-group.ensures)

pub returns : goal.returns
returns c = all_read _ _ _ _ _ _ _ c.groups.invariant (omega arith)
