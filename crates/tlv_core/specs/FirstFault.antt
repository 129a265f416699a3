-- The first fault of bytes that are not a list of objects (profile).
use Rattle.std.specs.Prelude.{◌≡◌, ◌≢◌, ℕ, ◌<◌, ◌≤◌, List, [], ◌∷◌, ◌++◌, length}
use Rattle.tlv_core.specs.TagForm.{IsTag, StartsWithTag, EndsInsideTag}
use Rattle.tlv_core.specs.Length.{SpellsLength, StartsWithLength, EndsInsideLength}
use Rattle.tlv_core.specs.Spelling.{deepest}
use Rattle.tlv_core.specs.Place.{Reached}
use Rattle.tlv_core.specs.declared.fault.Reason.{Reason}
use Rattle.tlv_core.specs.declared.fault.Reason.TheVariants.{TagCut, TagForm, LengthCut, LengthForm, ValueCut, TooDeep}

-- Why bytes that are neither empty nor padded in front do not start with an object of this level.
-- It is the first that holds of TooDeep, TagCut, TagForm, LengthCut, LengthForm and ValueCut.
abbrev pub FailsFor : List ℕ → ℕ → Reason → Type 0
FailsFor bytes level TooDeep = deepest < level
FailsFor bytes level TagCut = (level ≤ deepest) × EndsInsideTag bytes
FailsFor bytes level TagForm = (level ≤ deepest) × (EndsInsideTag bytes → ⊥)
    × (StartsWithTag bytes → ⊥)
FailsFor bytes level LengthCut = (level ≤ deepest)
    × ((tag rest : List ℕ) × IsTag tag × (bytes ≡ tag ++ rest) × EndsInsideLength rest)
FailsFor bytes level LengthForm = (level ≤ deepest)
    × ((tag rest : List ℕ) × IsTag tag × (bytes ≡ tag ++ rest) × (EndsInsideLength rest → ⊥)
    × (StartsWithLength rest → ⊥))
FailsFor bytes level ValueCut = (level ≤ deepest)
    × ((tag size rest : List ℕ) × (n : ℕ) × IsTag tag × SpellsLength size n
    × (bytes ≡ tag ++ size ++ rest) × (length rest < n))

-- the first byte is not 00
abbrev pub IsAtObject : List ℕ → Type 0
IsAtObject [] = ⊥
IsAtObject (byte ∷ _) = byte ≢ 0

-- a place that a reader reaches, not at the end of its list and not at padding, where no object is
pub record IsFault (bytes : List ℕ) (level place : ℕ) (reason : Reason) : Type 0 where
  pub left : List ℕ
  pub depth : ℕ
  pub path : List (List ℕ)
  pub reached : Reached bytes level place left depth path
  pub at_object : IsAtObject left
  pub fails : FailsFor left depth reason

-- the leftmost fault of the bytes as a list of objects at this level
pub record IsFirstFault (bytes : List ℕ) (level place : ℕ) (reason : Reason) : Type 0 where
  pub here : IsFault bytes level place reason
  pub none_before : (p : ℕ) (r : Reason) → IsFault bytes level p r → place ≤ p
