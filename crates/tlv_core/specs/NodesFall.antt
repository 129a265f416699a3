-- Each part of a forest is smaller than the forest.
use Rattle.std.specs.Prelude.{ℕ, ◌+◌, ◌≤◌, max, List, [], ◌∷◌}
use Rattle.std.specs.declared.alloc.Allocator.{Ghosts}
use Rattle.std.proofs.Common.{arith}
use denote.Param.Weighed.{most}
use Rattle.tlv_core.specs.Items.{Item, PrimitiveItem, TemplateItem, forest_of}
use Rattle.tlv_core.specs.Nodes.{item_of, item_size, forest_size}
use Rattle.tlv_core.specs.declared.node.Content.{Content}
use Rattle.tlv_core.specs.declared.node.Content.TheVariants as content
use Rattle.tlv_core.specs.declared.forest.Forest.TheDeep.{deep-Content}

pub most_le-forest_size : (items : List Item)
    → most (λ item. item_size item + 1) items ≤ forest_size (forest_of items)
most_le-forest_size [] = omega arith
most_le-forest_size (PrimitiveItem tag value ∷ items) = omega (arith, most_le-forest_size items)
most_le-forest_size (TemplateItem tag children ∷ items) = omega (arith, most_le-forest_size items)

pub depth_le-item_size : {A : Type 0} (allocator : Ghosts A) (tag : List ℕ) (c : Content A)
    → max (deep-Content A allocator c) 0 ≤ item_size (item_of tag c)
depth_le-item_size allocator tag (content.Primitive value) = omega arith
depth_le-item_size allocator tag (content.Template children) = omega arith
