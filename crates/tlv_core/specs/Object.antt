-- The objects in bytes, one after another.
use Rattle.std.specs.Prelude.{◌≡◌, ℕ, ◌+◌, ◌≤◌, List, [], length, All, Option, Some, None, true, false}
use Rattle.tlv_core.specs.TagForm.{IsTag, is_constructed}
use Rattle.tlv_core.specs.Length.{SpellsLength}
use Rattle.tlv_core.specs.Spelling.{Begins, Spells, AreObjects, deepest}
use Rattle.tlv_core.specs.Items.{Item, PrimitiveItem, TemplateItem}

-- an object: its tag, its length as spelled, its value, and its level
pub record Object : Type 0 where
  pub tag : List ℕ
  pub size : List ℕ
  pub value : List ℕ
  pub level : ℕ

-- Its length as spelled is that of its value. The value of a constructed object is a list of
-- objects one level deeper.
pub record IsObject (object : Object) : Type 0 where
  pub is_tag : IsTag object.tag
  pub is_size : SpellsLength object.size (length object.value)
  pub in_depth : object.level ≤ deepest
  pub inside : is_constructed object.tag ≡ true → AreObjects object.value (object.level + 1)

-- a list of objects, or what is left of one: its bytes, and the level of its objects
pub record ObjectList : Type 0 where
  pub bytes : List ℕ
  pub level : ℕ

-- the list is objects of its level
abbrev pub IsObjectList : ObjectList → Type 0
IsObjectList list = AreObjects list.bytes list.level

-- The next object of a list, past any padding, with the bytes that follow it. At the end no object
-- follows, and nothing but padding was left.
abbrev pub GivesNext : ObjectList → Option Object → ObjectList → Type 0
GivesNext before None after = All (λ b. b ≡ 0) before.bytes × (after.bytes ≡ [])
    × (after.level ≡ before.level)
GivesNext before (Some object) after =
    ((padding : List ℕ) × Begins before.bytes padding object.tag object.size object.value
    after.bytes before.level)
    × (object.level ≡ before.level) × (after.level ≡ before.level)

-- the object is this item of a forest: a primitive with its tag and value, or a template whose
-- value spells the children
abbrev pub IsItemOf : Item → Object → Type 0
IsItemOf (PrimitiveItem tag value) object =
    (object.tag ≡ tag) × (is_constructed tag ≡ false) × (object.value ≡ value)
IsItemOf (TemplateItem tag children) object =
    (object.tag ≡ tag) × (is_constructed tag ≡ true)
    × Spells children object.value (object.level + 1)
