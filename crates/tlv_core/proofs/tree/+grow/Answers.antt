use Rattle.std.proofs.Common.{◌≡◌, ◌+◌, ◌<◌, true, false, rules, arith}
use Rattle.tlv_core.specs.TagForm.{is_constructed}
use Rattle.tlv_core.specs.Spelling.{Spells}
use Rattle.tlv_core.proofs.Grown.{children_spelled, grows_primitive, grows_template, grown, children_fit, children_in_depth}
use Rattle.tlv_core.proofs.tree.+grow.Goals as goal

pub loop-object-preserved-in_ok-add_primitive-in-None-children :
    goal.loop-object-preserved-in_ok-add_primitive-in-None-children
loop-object-preserved-in_ok-add_primitive-in-None-children g t c =
    let kind : is_constructed c.in-Some.object.tag ≡ false = search rules in (
      tt,
      tt,
      rw (
        c.in_ok-add_primitive-in-None-children.ensures.ok,
        c.tag-tag.ensures,
        c.in_ok-from_slice-in-None-children.ensures.items,
        c.value.ensures,
      )
          (grows_primitive c.loop-object.forest c.args.objects c.loop-object.object-iterator
          c.next.new.self c.in-Some.object c.loop-object.invariant.2 c.in-Some.ensures.steps
          kind),
    )

pub add_template-requires-clause-fits : goal.add_template-requires-clause-fits
add_template-requires-clause-fits g t c =
    let inner : Spells c.in_ok-grow-in-Some-children.field-0 c.in-Some.object.value
    (c.in-Some.object.level + 1) =
    children_spelled c.in_ok-grow-in-Some-children.field-0 c.in-Some-children.children
    c.in-Some.object.value (c.in-Some.object.level + 1)
    c.in-Some-children.ensures.list.0 c.in_ok-grow-in-Some-children.ensures in
    children_fit c.loop-object.object-iterator c.next.new.self c.in-Some.object
    c.in_ok-grow-in-Some-children.field-0 c.in-Some.ensures.steps inner

pub add_template-requires-clause-in_depth : goal.add_template-requires-clause-in_depth
add_template-requires-clause-in_depth g t c =
    let inner : Spells c.in_ok-grow-in-Some-children.field-0 c.in-Some.object.value
    (c.in-Some.object.level + 1) =
    children_spelled c.in_ok-grow-in-Some-children.field-0 c.in-Some-children.children
    c.in-Some.object.value (c.in-Some.object.level + 1)
    c.in-Some-children.ensures.list.0 c.in_ok-grow-in-Some-children.ensures in
    let low : 0 < c.in-Some.object.level =
    omega (arith, c.in-Some.ensures.steps.1, c.loop-object.invariant.2.one_level) in
    children_in_depth c.in-Some.object c.in_ok-grow-in-Some-children.field-0 low inner

pub loop-object-preserved : goal.loop-object-preserved
loop-object-preserved g t c =
    let kind : is_constructed c.in-Some.object.tag ≡ true = search rules in
    let inner : Spells c.in_ok-grow-in-Some-children.field-0 c.in-Some.object.value
    (c.in-Some.object.level + 1) =
    children_spelled c.in_ok-grow-in-Some-children.field-0 c.in-Some-children.children
    c.in-Some.object.value (c.in-Some.object.level + 1)
    c.in-Some-children.ensures.list.0 c.in_ok-grow-in-Some-children.ensures in (
      tt,
      tt,
      rw (c.in_ok-add_template-in-Some-children.ensures.ok, c.tag-tag.ensures)
          (grows_template c.loop-object.forest c.args.objects c.loop-object.object-iterator
          c.next.new.self c.in-Some.object c.in_ok-grow-in-Some-children.field-0
          c.loop-object.invariant.2 c.in-Some.ensures.steps kind inner),
    )

pub returns : goal.returns
returns g t c = grown c.loop-object.forest c.args.objects c.loop-object.object-iterator
    c.next.new.self c.loop-object.invariant.2 c.in-None.ensures.steps
