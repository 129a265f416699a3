use Rattle.std.proofs.Common.{◌≡◌, ◌≤◌, length, sym, ap, ◌∙◌, append_assoc, rules, arith}
use Rattle.tlv_core.specs.Spelling.{encoding, longest, HasSoundObjects}
use Rattle.tlv_core.specs.Items.{PrimitiveItem, TemplateItem, forest_of}
use Rattle.tlv_core.specs.Nodes.{item_of}
use Rattle.tlv_core.proofs.ItemLists.{primitive_fits, template_fits, kept_size, appended_object, primitive_written, template_written}
use Rattle.tlv_core.proofs.forest.Forest.+append_to.Goals as goal
use Rattle.tlv_core.proofs.forest.Forest.+append_to.Goals.{in-Primitive+in_ok-append_primitive-in-Primitive, in-Template+in_ok-append_head-in-Template+in_ok-append_to-in-Template}

pub append_primitive-requires : goal.append_primitive-requires
append_primitive-requires g t c =
    let node : PrimitiveItem c.node.inside.tag c.in-Primitive.value.items ≡ c.node-item.result =
    ap (item_of c.node.inside.tag) (sym c.in-Primitive.is) ∙ c.node.view_is in
    let sound : HasSoundObjects (forest_of c.deref-node-items.result.now) =
    rw c.deref-node-items.ensures.value c.self.invariant.writable.sound in
    rw c.deref.ensures.value (primitive_fits c.deref-node-items.result.now c.loop-node.node-index
    c.node-item.result c.node.inside.tag c.in-Primitive.value.items
    (omega arith) c.node-item.is node sound)

pub overflow_cast-children-inside : goal.overflow_cast-children-inside
overflow_cast-children-inside g t c =
    let node : TemplateItem c.node.inside.tag c.in-Template.children ≡ c.node-item.result =
    ap (item_of c.node.inside.tag) (sym c.in-Template.is) ∙ c.node.view_is in
    let sound : HasSoundObjects (forest_of c.deref-node-items.result.now) =
    rw c.deref-node-items.ensures.value c.self.invariant.writable.sound in
    let fits : length (encoding c.in-Template.children) ≤ longest =
    template_fits c.deref-node-items.result.now c.loop-node.node-index c.node-item.result
    c.node.inside.tag c.in-Template.children (omega arith) c.node-item.is node sound in
    let size = kept_size (forest_of c.children.inside.nodes.items) c.in-Template.children
    c.children.inside.written c.children.inside.levels c.children.invariant c.children.view_is
    fits in
    search rules

pub loop-node-preserved : goal.loop-node-preserved
loop-node-preserved g t c =
    elim c.match-node.branch [
      | in-Primitive+in_ok-append_primitive-in-Primitive w ↦
          let node : PrimitiveItem c.node.inside.tag w.in-Primitive.value.items
          ≡ c.node-item.result =
          ap (item_of c.node.inside.tag) (sym w.in-Primitive.is) ∙ c.node.view_is in
          appended_object c.deref-node-items.result.now c.loop-node.node-index c.node-item.result
          c.args.bytes.now.items c.loop-node.bytes.items c.match-node.bytes.items
          (omega arith) c.node-item.is c.loop-node.invariant
          (rw (
            w.bytes-is,
            ← primitive_written c.node-item.result c.node.inside.tag
                w.in-Primitive.value.items node,
            ← w.deref.ensures.value,
          )
          w.in_ok-append_primitive-in-Primitive.ensures)
      | in-Template+in_ok-append_head-in-Template+in_ok-append_to-in-Template w ↦
          let node : TemplateItem c.node.inside.tag w.in-Template.children ≡ c.node-item.result =
          ap (item_of c.node.inside.tag) (sym w.in-Template.is) ∙ c.node.view_is in
          let sound : HasSoundObjects (forest_of c.deref-node-items.result.now) =
          rw c.deref-node-items.ensures.value c.self.invariant.writable.sound in
          let fits : length (encoding w.in-Template.children) ≤ longest =
          template_fits c.deref-node-items.result.now c.loop-node.node-index c.node-item.result
          c.node.inside.tag w.in-Template.children (omega arith) c.node-item.is node sound in
          let size = kept_size (forest_of w.children.inside.nodes.items) w.in-Template.children
          w.children.inside.written w.children.inside.levels w.children.invariant
          w.children.view_is fits in
          appended_object c.deref-node-items.result.now c.loop-node.node-index c.node-item.result
          c.args.bytes.now.items c.loop-node.bytes.items c.match-node.bytes.items
          (omega arith) c.node-item.is c.loop-node.invariant
          (rw (
            w.bytes-is,
            ← template_written c.node-item.result c.node.inside.tag w.in-Template.children
                w.children.inside.written node size,
            ← append_assoc,
            ← w.in_ok-append_head-in-Template.ensures,
          ) w.in_ok-append_to-in-Template.ensures)
    ]
