use Rattle.std.proofs.Common.{◌≡◌, ◌∙◌, true, false, rules}
use Rattle.tlv_core.specs.TagForm.{is_constructed}
use Rattle.card_trace.proofs.ObjectsLemmas.{printed_primitive, printed_template, printed_all, line_pushed, lines_pushed, children_spelled}
use Rattle.card_trace.proofs.text.+push_objects.Goals as goal

pub loop-object-preserved-in-Continue-branch-5 : goal.loop-object-preserved-in-Continue-branch-5
loop-object-preserved-in-Continue-branch-5 g t c =
    let kind : is_constructed c.in-Some.object.tag ≡ false = search rules in (
      tt,
      tt,
      printed_primitive c.args.below c.args.objects c.loop-object.object-iterator c.next.new.self
          c.in-Some.object _ c.loop-object.text.items c.push-in-None-children.new.self.items
          c.loop-object.invariant.2 c.in-Some.ensures.steps kind
          (line_pushed c.args.below c.in-Some.object.tag c.in-Some.object.value
          c.loop-object.text.items c.push_indent.new.text.items c.push_hex.new.text.items
          c.push.new.self.items
          c.push_value.new.text.items c.push-in-None-children.new.self.items
          c.bytes.result.now c.value.result.now c.in_ok-push_indent.ensures
          c.in_ok-push_hex.ensures
          (c.bytes.ensures.bytes ∙ c.tag.ensures)
          c.in_ok-push-in-None-children.ensures.items
          c.in_ok-push_value-in-None-children.ensures c.value.ensures
          c.in_ok-push-in-None-children-2.ensures.items),
    )

pub loop-object-preserved : goal.loop-object-preserved
loop-object-preserved g t c =
    let kind : is_constructed c.in-Some.object.tag ≡ true = search rules in
    let inner = c.in_ok-push_objects-in-Some-children.ensures in (
      tt,
      tt,
      printed_template c.args.below c.args.objects c.loop-object.object-iterator c.next.new.self
          c.in-Some.object inner.0 _ c.loop-object.text.items c.push_objects.new.text.items
          c.loop-object.invariant.2 c.in-Some.ensures.steps kind
          (children_spelled inner.0 c.in-Some-children.children c.in-Some.object.value _
          c.in-Some-children.ensures.list.0 inner.1)
          (lines_pushed c.args.below c.in-Some.object.tag c.loop-object.text.items
          c.push_indent.new.text.items c.push_hex.new.text.items
          c.push-in-Some-children.new.self.items
          c.push_objects.new.text.items c.bytes.result.now inner.0
          c.in_ok-push_indent.ensures c.in_ok-push_hex.ensures
          (c.bytes.ensures.bytes ∙ c.tag.ensures)
          c.in_ok-push-in-Some-children.ensures.items inner.2),
    )

pub returns : goal.returns
returns g t c = printed_all c.args.below c.args.objects c.loop-object.object-iterator
    c.next.new.self _ c.loop-object.text.items c.loop-object.invariant.2 c.in-None.ensures.steps
