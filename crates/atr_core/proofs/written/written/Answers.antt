-- There is room for each character, since an answer has at most 33.
use Rattle.std.proofs.Common.{◌≡◌, ◌++◌, List, [], drop, true, rules, arith, subst}
use Rattle.std.proofs.lemmas.List.{drop_all}
use Rattle.atr_core.specs.Answer.{Answer, names_other_than_0}
use Rattle.atr_core.specs.declared.group.TypedGroup.{TypedGroup}
use Rattle.atr_core.proofs.Writing.{AreWritten, parts, room, room_for_byte, room_for_check, all_groups}
use Rattle.atr_core.proofs.written.written.Goals as goal

pub push_indicator-requires-clause-room : goal.push_indicator-requires-clause-room
push_indicator-requires-clause-room c =
    room (parts c.args.convention c.args.first c.args.others.now c.args.historical.now) _ _ _ _
    c.requires c.groups.invariant

pub push_indicator-requires-2-clause-room : goal.push_indicator-requires-2-clause-room
push_indicator-requires-2-clause-room c =
    room (parts c.args.convention c.args.first c.args.others.now c.args.historical.now) _ _ _ _
    c.requires c.groups.invariant

pub historical-init : goal.historical-init
historical-init c =
    let a : Answer = parts c.args.convention c.args.first c.args.others.now c.args.historical.now in
    let P : List TypedGroup → Type 0 =
    λ left. AreWritten a c.groups.out.items c.groups.low c.groups.group left in
    all_groups a c.groups.out.items c.push_indicator-2.new.out.items c.groups.low c.groups.group
    (subst P (drop_all c.groups.named-index c.args.others.now c.groups-test.false)
    c.groups.invariant) c.push_indicator-2.ensures

pub push-requires-in-historical : goal.push-requires-in-historical
push-requires-in-historical c =
    let a : Answer =
    parts c.args.convention c.args.first c.args.others.now c.args.historical.now in (
      omega arith,
      room_for_byte a c.historical.out.items c.historical.byte-index c.requires
          c.historical-test.true c.historical.invariant,
    )

pub push-requires-then-names_other_than_0 : goal.push-requires-then-names_other_than_0
push-requires-then-names_other_than_0 c =
    let a : Answer = parts c.args.convention c.args.first c.args.others.now c.args.historical.now in
    let due : names_other_than_0 c.args.others.now ≡ true = search rules in (
      omega arith,
      room_for_check a c.historical.out.items
          (drop c.historical.byte-index c.args.historical.now ++ []) c.requires due
          c.historical.invariant,
    )
