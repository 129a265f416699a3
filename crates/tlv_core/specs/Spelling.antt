-- Lists of objects, and the bytes that spell them (EMV Book 3, Annex B).
use Rattle.std.specs.Prelude.{◌≡◌, ℕ, suc, ◌≤◌, max, List, [], ◌++◌, length, true, false}
use Rattle.std.specs.List.{All}
use Rattle.tlv_core.specs.TagForm.{IsTag, is_constructed}
use Rattle.tlv_core.specs.Length.{SpellsLength, shortest}

-- objects one after another: `rest` holds those after the first
pub data Forest : Type 0 where
  Empty : Forest
  Primitive : (tag value : List ℕ) (rest : Forest) → Forest
  Template : (tag : List ℕ) (children rest : Forest) → Forest

-- the deepest level of an object (profile)
abbrev pub deepest : ℕ
deepest = 16

-- the front of a list: padding, and one object as its tag, the spelled size and its value
pub record Begins (bytes padding tag size value rest : List ℕ) (level : ℕ) : Type 0 where
  pub spelled : bytes ≡ padding ++ tag ++ size ++ value ++ rest
  pub is_padding : All (λ b. b ≡ 0) padding
  pub is_tag : IsTag tag
  pub is_size : SpellsLength size (length value)
  pub in_depth : level ≤ deepest

-- the bytes are the objects of the forest at this level, with any padding between and around them
abbrev pub Spells : Forest → List ℕ → ℕ → Type 0
Spells Empty bytes level = All (λ b. b ≡ 0) bytes
Spells (Primitive tag value rest) bytes level =
    (padding size more : List ℕ) × Begins bytes padding tag size value more level
    × (is_constructed tag ≡ false) × Spells rest more level
Spells (Template tag children rest) bytes level =
    (padding size value more : List ℕ) × Begins bytes padding tag size value more level
    × (is_constructed tag ≡ true)
    × Spells children value (suc level) × Spells rest more level

-- the bytes are a list of objects at this level
abbrev pub AreObjects : List ℕ → ℕ → Type 0
AreObjects bytes level = (forest : Forest) × Spells forest bytes level

-- the bytes of one object, with the shortest length
abbrev pub object_bytes : List ℕ → List ℕ → List ℕ
object_bytes tag value = tag ++ shortest (length value) ++ value

-- the bytes of a forest, with the shortest lengths and no padding
abbrev pub encoding : Forest → List ℕ
encoding Empty = []
encoding (Primitive tag value rest) = object_bytes tag value ++ encoding rest
encoding (Template tag children rest) = object_bytes tag (encoding children) ++ encoding rest

-- the longest value in bytes, which `82` and two bytes can spell
abbrev pub longest : ℕ
longest = 65535

-- the number of levels of objects
abbrev pub levels : Forest → ℕ
levels Empty = 0
levels (Primitive tag value rest) = max 1 (levels rest)
levels (Template tag children rest) = max (suc (levels children)) (levels rest)

-- Each tag suits its object, and each value has at most 65,535 bytes when written.
abbrev pub HasSoundObjects : Forest → Type 0
HasSoundObjects Empty = Unit {0}
HasSoundObjects (Primitive tag value rest) = IsTag tag × (is_constructed tag ≡ false)
    × (length value ≤ longest) × HasSoundObjects rest
HasSoundObjects (Template tag children rest) =
    IsTag tag × (is_constructed tag ≡ true) × (length (encoding children) ≤ longest)
    × HasSoundObjects children × HasSoundObjects rest

-- the forests that can be written
pub record IsWritable (forest : Forest) : Type 0 where
  pub sound : HasSoundObjects forest
  pub in_depth : levels forest ≤ deepest
