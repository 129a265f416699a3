-- What is at the front of bytes, for each function of the reader.
use Rattle.std.specs.Prelude.{◌≡◌, ◌≢◌, ℕ, zero, suc, ◌+◌, ◌≤◌, List, [], ◌∷◌, ◌++◌, length, drop, slice_index, All, Result, Ok, Err}
use Rattle.tlv_core.specs.TagForm.{IsTag, StartsWithTag, EndsInsideTag}
use Rattle.tlv_core.specs.Length.{SpellsLength, StartsWithLength, EndsInsideLength}
use Rattle.tlv_core.specs.Spelling.{deepest}
use Rattle.tlv_core.specs.Place.{StartsWith}
use Rattle.tlv_core.specs.FirstFault.{IsAtObject}
use Rattle.tlv_core.specs.declared.fault.Reason.{Reason}
use Rattle.tlv_core.specs.declared.fault.Reason.TheVariants.{TagCut, TagForm, LengthCut, LengthForm}

-- the tag at the front, or the reason why there is no tag
abbrev pub IsFrontTag : List ℕ → Result (List ℕ) Reason → Type 0
IsFrontTag bytes (Ok tag) = IsTag tag × ((rest : List ℕ) × (bytes ≡ tag ++ rest))
IsFrontTag bytes (Err TagCut) = EndsInsideTag bytes
IsFrontTag bytes (Err TagForm) = (EndsInsideTag bytes → ⊥) × (StartsWithTag bytes → ⊥)
IsFrontTag bytes (Err _) = ⊥

-- the size of the tag at the front in bytes, or the reason why there is no tag
abbrev pub IsFrontTagSize : List ℕ → Result ℕ Reason → Type 0
IsFrontTagSize bytes (Ok n) = (tag : List ℕ) × IsFrontTag bytes (Ok tag) × (length tag ≡ n)
IsFrontTagSize bytes (Err reason) = IsFrontTag bytes (Err reason)

-- the first `spelled` bytes spell the length `value`
abbrev pub IsFrontSpelling : List ℕ → ℕ → ℕ → Type 0
IsFrontSpelling bytes spelled value = (size rest : List ℕ) × (bytes ≡ size ++ rest)
    × (length size ≡ spelled) × SpellsLength size value

-- the bytes from `start` to `end` spell the length `value`
abbrev pub IsSpelledFrom : List ℕ → ℕ → ℕ → ℕ → Type 0
IsSpelledFrom bytes start end value = (spelled : ℕ) × (end ≡ start + spelled)
    × IsFrontSpelling (drop start bytes) spelled value

-- the reason why no length is at the front
abbrev pub HasNoFrontLength : List ℕ → Reason → Type 0
HasNoFrontLength bytes LengthCut = EndsInsideLength bytes
HasNoFrontLength bytes LengthForm = (EndsInsideLength bytes → ⊥) × (StartsWithLength bytes → ⊥)
HasNoFrontLength bytes _ = ⊥

-- the bytes after the padding in front: none, or they start with a byte other than 00
pub record IsPastPadding (bytes rest : List ℕ) : Type 0 where
  pub padding : List ℕ
  pub is_padding : All (λ b. b ≡ 0) padding
  pub split : bytes ≡ padding ++ rest
  pub at_object : rest ≢ [] → IsAtObject rest

-- an object of this level at the front, with the sizes in bytes of its tag, its head and its value
pub record HasParts (bytes : List ℕ) (level tag_size head_size value_size : ℕ) : Type 0 where
  pub in_depth : level ≤ deepest
  pub tag : List ℕ
  pub size : List ℕ
  pub value : List ℕ
  pub rest : List ℕ
  pub starts : StartsWith bytes tag size value rest
  pub tag_is : length tag ≡ tag_size
  pub head_is : length (tag ++ size) ≡ head_size
  pub value_is : length value ≡ value_size

-- the first n numbers of an array, in reverse
abbrev pub innermost_first : List ℕ → ℕ → List ℕ
innermost_first cells zero = []
innermost_first cells (suc n) = slice_index cells n ∷ innermost_first cells n
