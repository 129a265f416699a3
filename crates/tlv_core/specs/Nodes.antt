-- What a forest in memory holds.
use Rattle.std.specs.Prelude.{◌≡◌, ℕ, suc, min, max, List, length}
use Rattle.std.specs.declared.alloc.Allocator.{Ghosts}
use Rattle.tlv_core.specs.Spelling.{Forest, Empty, Primitive, Template, encoding, levels, longest, IsWritable}
use Rattle.tlv_core.specs.Items.{Item, PrimitiveItem, TemplateItem}
use Rattle.tlv_core.specs.declared.node.Content.{Content}
use Rattle.tlv_core.specs.declared.node.Content.TheVariants as content

-- the object with this tag and content
abbrev pub item_of : {A : Type 0} → List ℕ → Content A → Item
item_of tag (content.Primitive value) = PrimitiveItem tag value.items
item_of tag (content.Template children) = TemplateItem tag children

-- how deep forests and their objects are nested: a measure for recursion
abbrev pub forest_size : Forest → ℕ
forest_size Empty = 0
forest_size (Primitive tag value rest) = max 1 (forest_size rest)
forest_size (Template tag children rest) = max (suc (suc (forest_size children))) (forest_size rest)

abbrev pub item_size : Item → ℕ
item_size (PrimitiveItem tag value) = 0
item_size (TemplateItem tag children) = suc (forest_size children)

-- The objects can be written. `written` is the size of their encoding, up to one more than the
-- longest value, and `depth` is the number of levels. For the proof: the allocator is named here so
-- that the check finds it when a forest is dropped.
pub record IsKept {A : Type 0} (allocator : Ghosts A) (forest : Forest) (written depth : ℕ) : Type 0
  where
    pub writable : IsWritable forest
    pub written_is : written ≡ min (length (encoding forest)) (suc longest)
    pub depth_is : depth ≡ levels forest
