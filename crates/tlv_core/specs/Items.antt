-- The objects of a forest one by one, as its nodes hold them.
use Rattle.std.specs.Prelude.{ℕ, List, [], ◌∷◌, Option, Some, None}
use Rattle.tlv_core.specs.Spelling.{Forest, Empty, Primitive, Template}

-- one object: its tag, with its value or its children
pub data Item : Type 0 where
  PrimitiveItem : (tag value : List ℕ) → Item
  TemplateItem : (tag : List ℕ) (children : Forest) → Item

-- the tag of an object
abbrev pub item_tag : Item → List ℕ
item_tag (PrimitiveItem tag value) = tag
item_tag (TemplateItem tag children) = tag

-- the value of a primitive
abbrev pub item_value : Item → Option (List ℕ)
item_value (PrimitiveItem tag value) = Some value
item_value (TemplateItem tag children) = None

-- the objects in a template
abbrev pub item_children : Item → Option Forest
item_children (PrimitiveItem tag value) = None
item_children (TemplateItem tag children) = Some children

-- the object, and then the others
abbrev pub with_first : Item → Forest → Forest
with_first (PrimitiveItem tag value) rest = Primitive tag value rest
with_first (TemplateItem tag children) rest = Template tag children rest

-- objects one after another
abbrev pub forest_of : List Item → Forest
forest_of [] = Empty
forest_of (item ∷ more) = with_first item (forest_of more)

-- the outermost objects in their order
abbrev pub items : Forest → List Item
items Empty = []
items (Primitive tag value rest) = PrimitiveItem tag value ∷ items rest
items (Template tag children rest) = TemplateItem tag children ∷ items rest

-- one more object at the end
abbrev pub with_last : Forest → Item → Forest
with_last Empty item = with_first item Empty
with_last (Primitive tag value rest) item = Primitive tag value (with_last rest item)
with_last (Template tag children rest) item = Template tag children (with_last rest item)
